use Rattle.std.proofs.Common.{◌≡◌, ◌++◌, length}
use Rattle.shared_map.specs.Chunks.{keys_in}
use Rattle.shared_map.proofs.same_keys.refilled.Given as goal

-- the keys are the same
abbrev pub invariant-loop-part : goal.invariant-loop-part
invariant-loop-part g l = l.part ++ keys_in l.rest ≡ l.fn.part ++ keys_in l.fn.rest

abbrev pub decreases-loop-part : goal.decreases-loop-part
decreases-loop-part g l = length l.rest
