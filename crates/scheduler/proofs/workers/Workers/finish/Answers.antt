use Rattle.std.proofs.Common.{length, sym, subst}
use Rattle.scheduler.specs.Waiting.{IsWatched}
use Rattle.scheduler.proofs.Watching.{watched_first}
use Rattle.scheduler.proofs.workers.Workers.finish.Goals as goal

pub invariant_of-self : goal.invariant_of-self
invariant_of-self c =
    subst IsWatched (sym c.wake_all.ensures)
    (watched_first (length c.self.inside.waits.shards) c.self.inside.waits c.self.invariant)
