use Rattle.std.proofs.Common.{sym, subst}
use Rattle.scheduler.specs.Waiting.{IsWatched}
use Rattle.scheduler.proofs.Watching.{watched_everybody}
use Rattle.scheduler.proofs.workers.Workers.wake_everybody.Goals as goal

pub invariant_of-self : goal.invariant_of-self
invariant_of-self c =
    subst IsWatched (sym c.wake_everybody.ensures)
    (watched_everybody c.self.inside.waits c.self.invariant)
