use Rattle.std.proofs.Common.{refl}
use Rattle.std.specs.List.{list_all}
use Rattle.std.specs.List.Sorted.{IsStrictlySortedBy}
use Rattle.shared_map.proofs.chunked.ChunkedSet.new.Goals as goal

pub invariant_of-result : goal.invariant_of-result
unfolding Rattle.std.specs.List.Sorted.IsStrictlySortedBy
invariant_of-result g c = rw c.empty.ensures (refl, (refl, tt))
