use Rattle.std.proofs.Common.{◌≡◌, ◌+◌, ◌≤◌, ◌++◌, List, length, vec_capacity}
use Rattle.room.specs.Books.{SeatBook}
use Rattle.desk.specs.WorkerThreads.{AllToWork}
use Rattle.desk.proofs.workers.Crew.start_all.Given as goal

-- there is a worker for each seat so far
abbrev pub invariant-loop-seat : goal.invariant-loop-seat
invariant-loop-seat g l =
    (goal.iterator-loop-seat g).can_next l.seat-iterator ×
    (goal.iterator-loop-seat g).is_finite l.seat-iterator ×
    (length l.workers.items + length l.seat-iterator.rest.items ≤ vec_capacity l.workers) ×
    (length l.workers.items + length l.seat-iterator.rest.items ≡ length l.fn.seats.items)
    × ((done : List SeatBook) × (l.fn.seats.items ≡ done ++ l.seat-iterator.rest.items)
    × (length l.workers.items ≡ length done)
    × AllToWork 0 l.self.desk.now.shards l.self.turns done l.workers.items)
