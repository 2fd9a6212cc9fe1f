use Rattle.std.proofs.Common.{◌<◌, length, IfSome, subst}
use Rattle.session_queue.specs.Waiting.{Queues, queue_at, SkipsNone}
use Rattle.convergence.proofs.InQueues.{next_in_queues}
use Rattle.convergence.proofs.engine.next_in.Goals as goal

pub returns : goal.returns
returns g c =
    let found = c.next_full.result in
    next_in_queues c.args.state.now c.facts.ensures.sound c.args.past found
    (subst (λ (q : Queues). IfSome found (λ d. 0 < length (queue_at q d.0 d.1))) c.queues.ensures
    c.next_full.ensures.full)
    c.next_full.ensures.past
    (subst (λ (q : Queues). SkipsNone q c.args.past found) c.queues.ensures c.next_full.ensures.none_between)
