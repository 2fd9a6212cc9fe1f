use Rattle.std.proofs.Common.{sym, subst}
use Rattle.scheduler.specs.Waiting.{IsWatched}
use Rattle.scheduler.proofs.Watching.{watched_one}
use Rattle.scheduler.proofs.workers.Workers.add_idle.Goals as goal

pub invariant_of-self : goal.invariant_of-self
invariant_of-self c =
    subst IsWatched (sym c.wake_one.ensures.woken) (watched_one c.add_idle.new.self)
