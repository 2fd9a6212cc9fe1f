use Rattle.std.proofs.Common.{◌-◌, sym, subst}
use Rattle.scheduler.specs.declared.waits.Waits.{Waits}
use Rattle.scheduler.specs.Waiting.{IsWatched, wakes_all}
use Rattle.scheduler.proofs.Watching.{watched_one}
use Rattle.scheduler.proofs.workers.Workers.leave.Goals as goal

pub invariant_of-self : goal.invariant_of-self
invariant_of-self c =
    let w : Waits = c.self.inside.waits in
    subst IsWatched (sym c.leave.ensures) (watched_one (wakes_all (record w { at_work = w.at_work - 1 })))
