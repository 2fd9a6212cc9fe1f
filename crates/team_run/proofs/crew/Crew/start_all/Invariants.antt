use Rattle.std.proofs.Common.{◌≡◌, ◌+◌, ◌≤◌, ◌++◌, List, OnOk, length, vec_capacity}
use Rattle.team_run.specs.EngineerThreads.{AreToPlay}
use Rattle.team_run.specs.Playing.{Engineering}
use Rattle.team_run.proofs.crew.Crew.start_all.Given as goal

-- there is a thread for each engineer so far, unless one could not be started
abbrev pub invariant-loop-engineer : goal.invariant-loop-engineer
invariant-loop-engineer g l =
    (goal.iterator-loop-engineer g).can_next l.engineer-iterator ×
    (goal.iterator-loop-engineer g).is_finite l.engineer-iterator ×
    (length l.threads.items + length l.engineer-iterator.rest.items ≤ vec_capacity l.threads)
    × ((done : List Engineering) × (l.fn.engineers.items ≡ done ++ l.engineer-iterator.rest.items)
    × OnOk l.outcome (AreToPlay done l.threads.items))
