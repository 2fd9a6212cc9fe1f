use Rattle.std.proofs.Common.{◌≡◌, ap, sym, ◌∙◌}
use Rattle.session_queue.specs.Telling.{message_of}
use Rattle.session_queue.specs.Waiting.{Queues, queue_at}
use Rattle.cell_engine.specs.State.{network}
use Rattle.convergence.specs.Waiting.{on_way, queued_of}
use Rattle.convergence.proofs.InQueues.{queued_none, queued_some, same_messages}
use Rattle.convergence.proofs.engine.queued_in.Goals as goal

pub returns-in-None : goal.returns-in-None
returns-in-None g c =
    let from = c.args.from in
    let to = c.args.to in
    let messages = queue_at c.queues-queues.result.now from to in
    let same : on_way (network c.args.state.now) from to ≡ messages =
    same_messages c.args.state.now c.facts.ensures.sound from to
    ∙ ap (λ (q : Queues). queue_at q from to) (sym c.queues-queues.ensures) in
    sym (ap queued_of same ∙ queued_none messages (sym c.in-None.ensures))

pub returns-in-Some : goal.returns-in-Some
returns-in-Some g c =
    let from = c.args.from in
    let to = c.args.to in
    let messages = queue_at c.queues-queues.result.now from to in
    let same : on_way (network c.args.state.now) from to ≡ messages =
    same_messages c.args.state.now c.facts.ensures.sound from to
    ∙ ap (λ (q : Queues). queue_at q from to) (sym c.queues-queues.ensures) in
    sym (ap queued_of same ∙ queued_some messages (message_of c.in-Some.head)
    (record { count = c.len.result; prefix = c.prefix.result }) (sym c.in-Some.ensures)
    (λ i. record { count = c.len.ensures i; prefix = c.prefix.ensures i }))
