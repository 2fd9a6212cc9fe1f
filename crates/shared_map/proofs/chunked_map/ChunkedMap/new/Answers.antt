use Rattle.std.proofs.Common.{refl}
use Rattle.shared_map.proofs.chunked_map.ChunkedMap.new.Goals as goal

pub invariant_of-result : goal.invariant_of-result
unfolding Rattle.std.specs.List.Sorted.IsStrictlySortedBy
invariant_of-result g c = (refl, tt)
