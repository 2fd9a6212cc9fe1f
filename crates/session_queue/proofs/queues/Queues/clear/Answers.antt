use Rattle.session_queue.proofs.Shown.{queue_shown_empty, spare_stays, others_stay}
use Rattle.session_queue.proofs.queues.Queues.clear.Goals as goal

pub returns-clause-queue : goal.returns-clause-queue
returns-clause-queue c =
    queue_shown_empty c.self.inside.pool c.clear.new.self c.args.from c.args.to c.clear.ensures.queue

pub returns-clause-spare : goal.returns-clause-spare
returns-clause-spare c =
    spare_stays c.self.inside.pool c.self.inside.queues c.clear.new.self c.args.self.now c.self.view_is c.args.from
    c.args.to c.clear.ensures.spare

pub returns-clause-others : goal.returns-clause-others
returns-clause-others c =
    others_stay c.self.inside.pool c.self.inside.queues c.clear.new.self c.args.self.now c.self.view_is c.args.from
    c.args.to c.clear.ensures.others
