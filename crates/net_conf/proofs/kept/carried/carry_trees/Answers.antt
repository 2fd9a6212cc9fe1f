use Rattle.std.proofs.Common.{◌∙◌, [], fold, map, sym, ap, subst}
use Rattle.std.specs.List.Sorted.{IsStrictlySortedBy}
use Rattle.std.specs.Map.{keys_of, lookup}
use Rattle.std.specs.BTreeMap.{is_at}
use Rattle.net_prefix.specs.Address.{addr_cmp}
use Rattle.net_conf.specs.Concerned.{is_among}
use Rattle.net_conf.specs.Kept.{WereTrees}
use Rattle.net_conf.specs.MovedTrees.{AreMoved, tree_after, with_tree, with_source}
use Rattle.net_conf.proofs.Carry.{all_carried, others_carried}
use Rattle.net_conf.proofs.kept.carried.carry_trees.Goals as goal

pub moved_trees-requires-clause-were : goal.moved_trees-requires-clause-were
moved_trees-requires-clause-were g c =
    subst (λ es. WereTrees c.args.change.now c.args.graph.now.nodes c.args.graph.now.edges es)
    (sym c.chunks.ensures) c.requires.were

pub moved_trees-requires-clause-ordered : goal.moved_trees-requires-clause-ordered
moved_trees-requires-clause-ordered g c = subst (λ es. IsStrictlySortedBy addr_cmp (keys_of es))
    (sym c.chunks.ensures) c.order.ensures

pub returns-clause-trees : goal.returns-clause-trees
returns-clause-trees g c r =
    let old = c.args.old.now in
    let moved = c.in_ok-moved.moved.items in
    let are : AreMoved c.args.graph.now old moved =
    subst (λ es. AreMoved c.args.graph.now es moved) c.chunks.ensures c.in_ok-moved.ensures in
    let made = c.in_ok-made.ensures ∙ ap (map tree_after) c.deref.ensures.value in
    ap (lookup (is_at (addr_cmp r))) (c.in_ok-carried.ensures.trees ∙ ap (fold with_tree old) made)
    ∙ all_carried c.args.graph.now old moved are r

pub returns-clause-moved : goal.returns-clause-moved
returns-clause-moved g c r out =
    let old = c.args.old.now in
    let moved = c.in_ok-moved.moved.items in
    let are : AreMoved c.args.graph.now old moved =
    subst (λ es. AreMoved c.args.graph.now es moved) c.chunks.ensures c.in_ok-moved.ensures in
    let made = c.in_ok-made.ensures ∙ ap (map tree_after) c.deref.ensures.value in
    let told = c.in_ok-carried.ensures.moved ∙ ap (fold with_source []) made in
    ap (lookup (is_at (addr_cmp r))) (c.in_ok-carried.ensures.trees ∙ ap (fold with_tree old) made)
    ∙ others_carried c.args.graph.now old moved are r (sym (ap (is_among r) told) ∙ out)
