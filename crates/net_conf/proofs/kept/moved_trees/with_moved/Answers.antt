use Rattle.std.proofs.Common.{◌≡◌, ◌∙◌, ◌+◌, ◌++◌, ◌∷◌, [], List, take, refl, sym, ap, subst, append_assoc, arith}
use Rattle.std.specs.Bool.{OnTrue}
use Rattle.std.proofs.lemmas.List.{take_more, take_all}
use Rattle.net_prefix.specs.declared.addr.Addr.{Addr}
use Rattle.igp_cost.specs.Stays.{Stays}
use Rattle.igp_cost.specs.Topology.{is_node}
use Rattle.igp_cost.specs.Trees.{Reached, tree_of}
use Rattle.net_conf.specs.Kept.{WasTreeOf}
use Rattle.net_conf.specs.MovedTrees.{AreMoved}
use Rattle.net_conf.proofs.Carry.{each_from_all, one_stays, one_moves}
use Rattle.net_conf.proofs.kept.moved_trees.with_moved.Goals.{then-not-keeps+in_ok-push, else-not-keeps}
use Rattle.net_conf.proofs.kept.moved_trees.with_moved.Goals as goal

pub invariant_of-push : goal.invariant_of-push
invariant_of-push c =
    let change = c.args.change.now in
    let graph = c.args.graph.now in
    let here = each_from_all (λ (e : Addr × Reached). WasTreeOf change graph.nodes graph.edges e.0 e.1) c.args.old.now
    c.loop-entry.entry-index c.entry-item.result c.requires c.loop-entry-test.true in
    let was = subst (λ (e : Addr × Reached). WasTreeOf change graph.nodes graph.edges e.0 e.1)
    (sym c.entry-item.is) here in
    record { node = ap (is_node graph.nodes) was.source ∙ was.node; was = was.was }

pub loop-entry-preserved : goal.loop-entry-preserved
loop-entry-preserved c before first =
    let change = c.args.change.now in
    let graph = c.args.graph.now in
    let old = c.args.old.now in
    let at = c.loop-entry.entry-index in
    let so_far = before ++ take at old in
    let moved = c.loop-entry.with.items in
    let e : Addr × Reached = c.entry-item.result in
    let here = each_from_all (λ (y : Addr × Reached). WasTreeOf change graph.nodes graph.edges y.0 y.1) old at e
    c.requires c.loop-entry-test.true in
    let was = subst (λ (y : Addr × Reached). WasTreeOf change graph.nodes graph.edges y.0 y.1)
    (sym c.entry-item.is) here in
    let more : before ++ take (at + 1) old ≡ so_far ++ (e.0, e.1) ∷ [] =
    ap (λ (ys : List (Addr × Reached)). before ++ ys) (take_more old at e c.loop-entry-test.true
    ∙ ap (λ (y : Addr × Reached). take at old ++ y ∷ []) (sym c.entry-item.is))
    ∙ sym (append_assoc before (take at old) ((e.0, e.1) ∷ [])) in
    elim c.if-not-keeps.branch [
      | then-not-keeps+in_ok-push w ↦ rw (
        w.with-is,
        w.in_ok-push.ensures.items,
        more,
      ) (one_moves graph so_far moved e.0 (record { graph = graph; change = change; tree = e.1 })
          (c.loop-entry.invariant before first) refl was.source)
      | else-not-keeps w ↦
          let stays = subst (λ b. OnTrue b (Stays change graph.nodes graph.edges e.1))
          w.if-not-keeps.false c.keeps.ensures in
          let tree = stays was.was.before was.was.changes was.was.was in
          rw (w.with-is, more) (one_stays graph so_far moved e.0 e.1 (c.loop-entry.invariant before first) (tree.whole
          ∙ ap (tree_of graph.nodes graph.edges) was.source))
    ]

pub returns : goal.returns
returns c before first =
    let old = c.args.old.now in
    subst (λ ys. AreMoved c.args.graph.now (before ++ ys) c.loop-entry.with.items)
    (take_all c.loop-entry.entry-index old (omega arith)) (c.loop-entry.invariant before first)
