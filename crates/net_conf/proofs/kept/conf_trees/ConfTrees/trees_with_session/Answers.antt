use Rattle.std.proofs.Common.{◌≡◌, ◌∙◌, true, cond, Some, sym, ap, subst}
use Rattle.std.specs.Map.{lookup}
use Rattle.std.specs.BTreeMap.{is_at}
use Rattle.net_prefix.specs.Address.{addr_cmp}
use Rattle.igp_cost.specs.Trees.{tree_of}
use Rattle.net_conf.specs.Configuration.{ends_session}
use Rattle.net_conf.specs.Costs.{costs_of}
use Rattle.net_conf.specs.Kept.{IsJoined}
use Rattle.net_conf.proofs.KeptTrees.{end_node}
use Rattle.net_conf.proofs.TreesAfter.{kept_still, stay_joined, first_joined, second_joined, kept_joined, right_still, right_then, at_one}
use Rattle.net_conf.proofs.kept.conf_trees.ConfTrees.trees_with_session.Goals as goal

pub returns-then-ends_session-2 : goal.returns-then-ends_session-2
returns-then-ends_session-2 c r =
    let s = c.self.inside.tables in
    let joined = subst (λ x. IsJoined x c.args.tables.now c.args.one c.args.other)
    (sym c.self.view_is) c.requires.joined in
    let same : c.in_ok-trees.trees ≡ c.self.inside.trees = c.in_ok-trees.ensures.ok in
    let first : ends_session s c.args.one ≡ true = ap (λ x. ends_session x c.args.one) c.self.view_is
    ∙ sym c.ends_session.ensures ∙ c.if-ends_session.true in
    let second : ends_session s c.args.other ≡ true = ap (λ x. ends_session x c.args.other) c.self.view_is
    ∙ sym c.ends_session-then-ends_session.ensures ∙ c.if-ends_session-2.true in
    ap (lookup (is_at (addr_cmp r))) same
    ∙ kept_still s c.args.tables.now c.self.inside.trees
    (stay_joined s c.args.tables.now c.args.one c.args.other joined first second) c.self.invariant.1 r

pub graph_for-requires-clause-first : goal.graph_for-requires-clause-first
graph_for-requires-clause-first c =
    let d = c.args.tables.now in
    let a = c.args.one in
    end_node d a c.requires.sound (first_joined c.args.self.now d a c.args.other c.requires.joined)

pub graph_for-requires-clause-second : goal.graph_for-requires-clause-second
graph_for-requires-clause-second c =
    let d = c.args.tables.now in
    let b = c.args.other in
    end_node d b c.requires.sound (second_joined c.args.self.now d c.args.one b c.requires.joined)

pub add_missing-requires-clause-node : goal.add_missing-requires-clause-node
add_missing-requires-clause-node c = c.in_ok-graph.ensures.first

pub add_missing-requires-2-clause-node : goal.add_missing-requires-2-clause-node
add_missing-requires-2-clause-node c = c.in_ok-graph.ensures.second

pub add_missing-requires-clause-right : goal.add_missing-requires-clause-right
add_missing-requires-clause-right c t found =
    let s = c.self.inside.tables in
    let d = c.args.tables.now in
    let a = c.args.one in
    let joined = subst (λ x. IsJoined x d a c.args.other) (sym c.self.view_is) c.requires.joined in
    let same : c.in_ok-trees.trees ≡ c.self.inside.trees = c.in_ok-trees.ensures.ok in
    right_still s d a c.args.other joined a t (sym (c.self.invariant.1 a) ∙ sym (ap (lookup (is_at (addr_cmp a))) same)
    ∙ found)
    ∙ sym c.in_ok-graph.ensures.one

pub add_missing-requires-2-clause-right : goal.add_missing-requires-2-clause-right
add_missing-requires-2-clause-right c t found =
    let s = c.self.inside.tables in
    let d = c.args.tables.now in
    let a = c.args.one in
    let b = c.args.other in
    let joined = subst (λ x. IsJoined x d a b) (sym c.self.view_is) c.requires.joined in
    let same : c.in_ok-trees.trees ≡ c.self.inside.trees = c.in_ok-trees.ensures.ok in
    let graph = c.in_ok-graph.ensures.other in
    let first = ap (λ x. cond (is_at (addr_cmp b) a) (Some x) (lookup (is_at (addr_cmp b)) c.in_ok-trees.trees))
    graph in
    let kept = ap (cond (is_at (addr_cmp b) a) (Some (costs_of d b))) (ap (lookup (is_at (addr_cmp b))) same
    ∙ c.self.invariant.1 b) in
    right_then s d a b joined b t (is_at (addr_cmp b) a) (sym (c.in_ok-add_missing.ensures b ∙ first ∙ kept) ∙ found)
    ∙ sym graph

pub returns : goal.returns
returns c r =
    let s = c.self.inside.tables in
    let d = c.args.tables.now in
    let a = c.args.one in
    let b = c.args.other in
    let joined = subst (λ x. IsJoined x d a b) (sym c.self.view_is) c.requires.joined in
    let same : c.in_ok-trees.trees ≡ c.self.inside.trees = c.in_ok-trees.ensures.ok in
    let made = tree_of c.in_ok-graph.graph.nodes c.in_ok-graph.graph.edges in
    let before = ap (lookup (is_at (addr_cmp r))) same ∙ c.self.invariant.1 r in
    c.in_ok-add_missing-2.ensures r
    ∙ ap (cond (is_at (addr_cmp r) b) (Some (made r))) (c.in_ok-add_missing.ensures r)
    ∙ at_one made (costs_of d) r b c.in_ok-graph.ensures.other
    (cond (is_at (addr_cmp r) a) (Some (made r)) (lookup (is_at (addr_cmp r)) c.in_ok-trees.trees))
    ∙ ap (cond (is_at (addr_cmp r) b) (Some (costs_of d r)))
    (at_one made (costs_of d) r a c.in_ok-graph.ensures.one (lookup (is_at (addr_cmp r)) c.in_ok-trees.trees)
    ∙ ap (cond (is_at (addr_cmp r) a) (Some (costs_of d r))) before)
    ∙ kept_joined s d a b joined r
