use Rattle.std.proofs.Common.{◌≡◌, ◌∙◌, None, sym, ap}
use Rattle.std.specs.Map.{lookup}
use Rattle.std.specs.BTreeMap.{is_at}
use Rattle.net_prefix.specs.Address.{addr_cmp}
use Rattle.net_conf.specs.Edits.{refusal_of, edited}
use Rattle.net_conf.specs.Kept.{tree_kept}
use Rattle.net_conf.proofs.TreesAfter.{kept_still, node_is_new, others_stay}
use Rattle.net_conf.proofs.kept.conf_trees.ConfTrees.same_trees.Goals as goal

pub returns : goal.returns
returns c r =
    let s = c.self.inside.tables in
    let e = c.args.edit.now in
    let none : refusal_of s e ≡ None = ap (λ x. refusal_of x e) c.self.view_is ∙ c.requires.passes in
    let same : c.in_ok-trees.trees ≡ c.self.inside.trees = c.in_ok-trees.ensures.ok in
    ap (lookup (is_at (addr_cmp r))) same
    ∙ kept_still s (edited s e) c.self.inside.trees
    (others_stay c.lone_node_moves_no_tree.ensures s e c.self.invariant.0 c.orders.ensures.nodes
    (node_is_new s e none) c.requires.link c.requires.session) c.self.invariant.1 r
    ∙ ap (λ x. tree_kept x r) (ap (λ x. edited x e) c.self.view_is ∙ sym c.requires.made)
