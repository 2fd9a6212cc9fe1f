-- The order stays.
use Rattle.std.proofs.Common.{sym, subst, ◌∙◌}
use Rattle.std.specs.List.Sorted.{IsStrictlySortedBy}
use Rattle.std.specs.BTreeMap.{is_at}
use Rattle.shared_map.proofs.InOrder.{left_in_order}
use Rattle.shared_map.proofs.keys.take_key.Goals as goal

pub returns-in-Ok-clause-ordered : goal.returns-in-Ok-clause-ordered
returns-in-Ok-clause-ordered g c =
    let is = rw c.deref.ensures.value at c.in-Ok.ensures.found in
    subst (IsStrictlySortedBy g.K.Ord.cmp) (sym (c.remove.ensures.items ∙ is.removed))
    (left_in_order g.K.Ord.cmp (is_at (g.K.Ord.cmp c.args.key.now)) c.args.keys.now.items c.requires)
