-- The order stays.
use Rattle.std.proofs.Common.{◌∙◌}
use Rattle.std.specs.BTreeMap.{is_at}
use Rattle.shared_map.proofs.InOrder.{entries_left_in_order}
use Rattle.shared_map.proofs.entries.take_out.Goals as goal

pub returns-in-Ok-clause-ordered : goal.returns-in-Ok-clause-ordered
returns-in-Ok-clause-ordered g c =
    let is = rw c.deref.ensures.value at c.in-Ok.ensures.found in
    entries_left_in_order g.K.Ord.cmp (is_at (g.K.Ord.cmp c.args.key.now)) c.args.entries.now.items
    _ (c.remove.ensures.items ∙ is.removed) c.requires
