use Rattle.std.proofs.Common.{◌≡◌, ◌+◌}
use Rattle.room.specs.Books.{blank_seats}
use Rattle.room.proofs.room.seat.all_of.Given as goal

abbrev pub invariant-loop-number : goal.invariant-loop-number
invariant-loop-number g l = (l.rest.parts + l.number ≡ 256) × (l.rest.amount ≡ 0) × (l.all.items ≡ blank_seats l.number)
