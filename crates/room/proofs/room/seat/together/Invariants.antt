use Rattle.std.proofs.Common.{◌≡◌, ◌+◌, length}
use Rattle.room.specs.Closing.{counted}
use Rattle.room.proofs.room.seat.together.Given as goal

abbrev pub invariant-loop-seat : goal.invariant-loop-seat
invariant-loop-seat g l =
    (goal.iterator-loop-seat g).can_next l.seat-iterator ×
    (goal.iterator-loop-seat g).is_finite l.seat-iterator ×
    (l.all.parts + length l.seat-iterator.rest.items ≡ l.fn.rest.parts + length l.fn.seats.items)
    × (l.all.amount + counted l.seat-iterator.rest.items ≡ l.fn.rest.amount + counted l.fn.seats.items)
