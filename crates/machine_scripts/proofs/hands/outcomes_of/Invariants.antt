use Rattle.std.proofs.Common.{All}
use Rattle.room.specs.Books.{RoomBook}
use Rattle.room.specs.Jobs.{IsSeenIn}
use Rattle.machine_scripts.proofs.hands.outcomes_of.Given as goal

-- the jobs that are left and the outcomes were seen in one room
abbrev pub invariant-loop-job : goal.invariant-loop-job
invariant-loop-job l =
    goal.iterator-loop-job.can_next l.job-iterator ×
    goal.iterator-loop-job.is_finite l.job-iterator ×
    ((room : RoomBook) × All (IsSeenIn room) l.job-iterator.rest.items × All (IsSeenIn room) l.outcomes.items)
