use Rattle.std.proofs.Common.{◌∙◌, Some, None, take, get_or, option_copied, refl, sym, ap, subst}
use Rattle.std.specs.Bool.{OnTrue}
use Rattle.std.proofs.lemmas.List.{append-nil}
use Rattle.igp_cost.specs.Stays.{Stays}
use Rattle.igp_cost.specs.Topology.{is_node}
use Rattle.igp_cost.specs.Trees.{tree_of}
use Rattle.net_prefix.specs.declared.addr.Addr.{Addr}
use Rattle.net_conf.specs.Kept.{WasTreeOf}
use Rattle.net_conf.specs.Members.{trees_of}
use Rattle.net_conf.specs.MovedTrees.{AreMoved}
use Rattle.net_conf.proofs.Carry.{one_stays, one_moves}
use Rattle.net_conf.proofs.Members.{among_at, one_more}
use Rattle.net_conf.proofs.kept.moved_trees.moved_members.Goals as goal

pub loop-member-preserved-in_default : goal.loop-member-preserved-in_default
loop-member-preserved-in_default c =
    let rs = c.args.members.now in
    let at = c.loop-member.member-index in
    let more = one_more rs c.args.old.now at (record { 0 = 0 }) c.loop-member-test.true None (sym c.get.ensures
    ∙ ap (λ o. option_copied o) c.in_default.is) in
    subst (λ es. AreMoved c.args.graph.now es c.loop-member.moved.items)
    (sym (more ∙ append-nil (trees_of (take at rs) c.args.old.now))) c.loop-member.invariant

pub loop-member-preserved-then-keeps : goal.loop-member-preserved-then-keeps
loop-member-preserved-then-keeps c =
    let graph = c.args.graph.now in
    let change = c.args.change.now in
    let rs = c.args.members.now in
    let at = c.loop-member.member-index in
    let r : Addr = get_or rs at (record { 0 = 0 }) in
    let tree = c.in-Some.tree.now in
    let found = sym c.get.ensures ∙ ap (λ o. option_copied o) c.in-Some.is in
    let was : WasTreeOf change graph.nodes graph.edges r tree =
    c.requires r tree (among_at rs at (record { 0 = 0 }) c.loop-member-test.true) found in
    let stays = subst (λ b. OnTrue b (Stays change graph.nodes graph.edges tree)) c.if-keeps.true c.keeps.ensures in
    let still = stays was.was.before was.was.changes was.was.was in
    let more = one_more rs c.args.old.now at (record { 0 = 0 }) c.loop-member-test.true (Some tree) found in
    subst (λ es. AreMoved graph es c.loop-member.moved.items) (sym more)
    (one_stays graph (trees_of (take at rs) c.args.old.now) c.loop-member.moved.items r tree c.loop-member.invariant
    (still.whole ∙ ap (tree_of graph.nodes graph.edges) was.source))

pub invariant_of-push : goal.invariant_of-push
invariant_of-push c =
    let graph = c.args.graph.now in
    let rs = c.args.members.now in
    let at = c.loop-member.member-index in
    let r : Addr = get_or rs at (record { 0 = 0 }) in
    let tree = c.in-Some.tree.now in
    let found = sym c.get.ensures ∙ ap (λ o. option_copied o) c.in-Some.is in
    let was : WasTreeOf c.args.change.now graph.nodes graph.edges r tree =
    c.requires r tree (among_at rs at (record { 0 = 0 }) c.loop-member-test.true) found in
    record { node = ap (is_node graph.nodes) was.source ∙ was.node; was = was.was }

pub loop-member-preserved : goal.loop-member-preserved
loop-member-preserved c =
    let graph = c.args.graph.now in
    let change = c.args.change.now in
    let rs = c.args.members.now in
    let at = c.loop-member.member-index in
    let r : Addr = get_or rs at (record { 0 = 0 }) in
    let tree = c.in-Some.tree.now in
    let found = sym c.get.ensures ∙ ap (λ o. option_copied o) c.in-Some.is in
    let was : WasTreeOf change graph.nodes graph.edges r tree =
    c.requires r tree (among_at rs at (record { 0 = 0 }) c.loop-member-test.true) found in
    let more = one_more rs c.args.old.now at (record { 0 = 0 }) c.loop-member-test.true (Some tree) found in
    rw (
      c.in_ok-push.ensures.items,
      more,
    ) (one_moves graph (trees_of (take at rs) c.args.old.now) c.loop-member.moved.items r
    (record { graph = graph; change = change; tree = tree }) c.loop-member.invariant refl was.source)
