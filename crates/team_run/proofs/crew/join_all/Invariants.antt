use Rattle.std.proofs.Common.{List}
use Rattle.team_run.specs.EngineerThreads.{AreToPlay}
use Rattle.team_run.specs.Playing.{Engineering}
use Rattle.team_run.proofs.Crews.{Coming}
use Rattle.team_run.proofs.crew.join_all.Given as goal

-- some seats are back, and the others are to come
abbrev pub invariant-loop-thread : goal.invariant-loop-thread
invariant-loop-thread g l =
    (goal.iterator-loop-thread g).can_next l.thread-iterator ×
    (goal.iterator-loop-thread g).is_finite l.thread-iterator ×
    ((engineers : List Engineering) → AreToPlay engineers l.fn.threads.items →
    Coming engineers l.thread-iterator.rest.items l.fn.seats.items l.seats.items l.all.items)
