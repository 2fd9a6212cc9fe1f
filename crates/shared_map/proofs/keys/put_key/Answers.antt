-- The order stays.
use Rattle.std.proofs.Common.{sym, subst, ◌∙◌}
use Rattle.std.specs.List.Sorted.{IsStrictlySortedBy}
use Rattle.shared_map.proofs.InOrder.{put_in_order}
use Rattle.shared_map.proofs.keys.put_key.Goals as goal

pub returns-in_ok-insert-clause-ordered : goal.returns-in_ok-insert-clause-ordered
returns-in_ok-insert-clause-ordered g c =
    let is = rw c.deref.ensures.value at c.in-Err.ensures.absent in
    subst (IsStrictlySortedBy g.K.Ord.cmp) (sym (c.in_ok-insert.ensures.items ∙ is.added))
    (put_in_order g.K.Ord.cmp g.met.K.Ord.total c.args.key c.args.keys.now.items c.requires)
