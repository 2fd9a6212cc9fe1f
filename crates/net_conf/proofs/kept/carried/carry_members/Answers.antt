use Rattle.std.proofs.Common.{◌∙◌, [], fold, map, sym, ap}
use Rattle.std.specs.Map.{lookup}
use Rattle.std.specs.BTreeMap.{is_at}
use Rattle.net_prefix.specs.Address.{addr_cmp}
use Rattle.net_conf.specs.Concerned.{is_among}
use Rattle.net_conf.specs.MovedTrees.{tree_after, with_tree, with_source}
use Rattle.net_conf.proofs.Members.{these_carried, others_kept, unmoved_kept}
use Rattle.net_conf.proofs.kept.carried.carry_members.Goals as goal

pub returns-clause-trees : goal.returns-clause-trees
returns-clause-trees c r among =
    let made = c.in_ok-made.ensures ∙ ap (map tree_after) c.deref.ensures.value in
    ap (lookup (is_at (addr_cmp r))) (c.in_ok-carried.ensures.trees ∙ ap (fold with_tree c.args.old.now) made)
    ∙ these_carried c.args.graph.now c.args.old.now c.args.members.now c.in_ok-moved.moved.items
    c.in_ok-moved.ensures r among

pub returns-clause-others : goal.returns-clause-others
returns-clause-others c r out =
    let made = c.in_ok-made.ensures ∙ ap (map tree_after) c.deref.ensures.value in
    ap (lookup (is_at (addr_cmp r))) (c.in_ok-carried.ensures.trees ∙ ap (fold with_tree c.args.old.now) made)
    ∙ others_kept c.args.graph.now c.args.old.now c.args.members.now c.in_ok-moved.moved.items
    c.in_ok-moved.ensures r out

pub returns-clause-moved : goal.returns-clause-moved
returns-clause-moved c r out =
    let made = c.in_ok-made.ensures ∙ ap (map tree_after) c.deref.ensures.value in
    let told = c.in_ok-carried.ensures.moved ∙ ap (fold with_source []) made in
    ap (lookup (is_at (addr_cmp r))) (c.in_ok-carried.ensures.trees ∙ ap (fold with_tree c.args.old.now) made)
    ∙ unmoved_kept c.args.graph.now c.args.old.now c.args.members.now c.in_ok-moved.moved.items c.in_ok-moved.ensures r
    (sym (ap (is_among r) told) ∙ out)
