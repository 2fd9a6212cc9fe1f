use Rattle.std.proofs.Common.{◌+◌, ◌≤◌, ℕ, List, length, vec_capacity}
use Rattle.room.specs.Books.{SeatBook}
use Rattle.desk.specs.WorkerThreads.{AllToWork}
use Rattle.desk.proofs.WorkerThreads.{Coming}
use Rattle.desk.proofs.worker_threads.join_all.Given as goal

-- some seats are back, and the others are to come
abbrev pub invariant-loop-worker : goal.invariant-loop-worker
invariant-loop-worker g l =
    (goal.iterator-loop-worker g).can_next l.worker-iterator ×
    (goal.iterator-loop-worker g).is_finite l.worker-iterator ×
    (length l.back.items + length l.worker-iterator.rest.items ≤ vec_capacity l.back)
    × ((shards turns : ℕ) (seats : List SeatBook) → AllToWork 0 shards turns seats l.fn.workers.items →
    Coming shards turns seats l.worker-iterator.rest.items l.back.items)
