use Rattle.std.proofs.Common.{◌≡◌}
use Rattle.std.specs.Prelude.{is_ok}
use Rattle.room.specs.Jobs.{Job}
use Rattle.room.proofs.Pushed.{one_more}
use Rattle.desk.proofs.workers.Crew.do_job.Goals as goal

pub returns-clause-kept : goal.returns-clause-kept
returns-clause-kept g c =
    one_more (λ (x : Job). x ≡ c.args.job) (is_ok c.push.result) c.args.outcomes.now.items c.push.new.self.items
    c.in-Ok.done c.push.ensures.items c.in-Ok.ensures.done
