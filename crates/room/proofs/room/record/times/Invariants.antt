use Rattle.std.proofs.Common.{◌≡◌, ◌≤◌, take}
use Rattle.room.specs.Closing.{times}
use Rattle.room.proofs.room.record.times.Given as goal

abbrev pub invariant-loop-seat : goal.invariant-loop-seat
invariant-loop-seat g l = (l.found ≡ times l.number (take l.seat-index l.seats)) × (l.found ≤ l.seat-index)
