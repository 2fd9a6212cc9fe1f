use Rattle.std.proofs.Common.{◌≡◌, ℕ, ◌+◌, ◌≤◌, length, All}
use Rattle.room.specs.Books.{RoomBook}
use Rattle.room.specs.Jobs.{IsOfShard, IsSeenIn}
use Rattle.desk.specs.WorkerThreads.{IsTold}
use Rattle.desk.proofs.workers.Crew.outcomes_of.Given as goal

-- the jobs that are left and the outcomes were seen in one room, are of one shard if all jobs were, and are no more
-- than those; n of the worker's jobs were worked, and the gate was told of the last
abbrev pub invariant-loop-job : goal.invariant-loop-job
invariant-loop-job g l =
    (goal.iterator-loop-job g).can_next l.job-iterator ×
    (goal.iterator-loop-job g).is_finite l.job-iterator ×
    ((room : RoomBook) × All (IsSeenIn room) l.job-iterator.rest.items × All (IsSeenIn room) l.outcomes.items) ×
    ((shard shards : ℕ) → All (IsOfShard shard shards) l.fn.jobs →
    All (IsOfShard shard shards) l.job-iterator.rest.items × All (IsOfShard shard shards) l.outcomes.items) ×
    (length l.outcomes.items + length l.job-iterator.rest.items ≤ length l.fn.jobs) ×
    (l.n + length l.job-iterator.rest.items ≡ l.jobs_before + length l.fn.jobs)
    × IsTold (g.G.Gate.was_taken l.self.gate.now l.worker) l.n
