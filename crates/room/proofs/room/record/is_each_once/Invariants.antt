use Rattle.std.proofs.Common.{◌≡◌, ℕ, ◌<◌, length}
use Rattle.room.specs.Closing.{times}
use Rattle.room.proofs.room.record.is_each_once.Given as goal

abbrev pub invariant-loop-number : goal.invariant-loop-number
invariant-loop-number g l = (length l.seats ≡ l.count) × ((k : ℕ) → k < l.number → times k l.seats ≡ 1)
