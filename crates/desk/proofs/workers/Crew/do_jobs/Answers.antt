use Rattle.desk.proofs.Working.{worked_told}
use Rattle.desk.proofs.workers.Crew.do_jobs.Goals as goal

pub returns-clause-worked : goal.returns-clause-worked
returns-clause-worked g c = λ shard shards of.
    worked_told c.commit_all.result shard shards _ c.args.seat.now c.outcomes_of-outcomes.result c.commit_all.new.seat
    c.outcomes_of-outcomes.ensures.most
    (c.outcomes_of-outcomes.ensures.of_shard shard shards of) c.commit_all.ensures.committed
    c.commit_all.ensures.broken_off
