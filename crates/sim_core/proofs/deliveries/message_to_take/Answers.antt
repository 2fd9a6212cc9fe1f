use Rattle.std.proofs.Common.{slice_get, Some, refl, sym, ap, option_map, ◌∙◌}
use Rattle.session_queue.specs.Telling.{message_of}
use Rattle.session_queue.specs.Waiting.{queue_at}
use Rattle.reference_machine.specs.Machine.{delivery_refusal}
use Rattle.sim_core.proofs.Refusals.{delivery_denied, delivery_denied_empty, delivery_wants}
use Rattle.sim_core.proofs.deliveries.message_to_take.Goals as goal

pub returns-in-Some-clause-refused : goal.returns-in-Some-clause-refused
returns-in-Some-clause-refused g c =
    let d = c.args.direction in
    delivery_denied c.args.state.now d c.in-Some.refusal (sym (ap (λ k. delivery_refusal k d) c.conf.ensures)
    ∙ sym c.delivery_refusal.ensures ∙ c.in-Some.is)

pub returns-in_default-head-clause-refused : goal.returns-in_default-head-clause-refused
returns-in_default-head-clause-refused g c =
    let d = c.args.direction in
    delivery_denied_empty c.args.state.now c.facts.ensures.sound d (sym (ap (λ k. delivery_refusal k d) c.conf.ensures)
    ∙ sym c.delivery_refusal.ensures ∙ c.in_default.is)
    (sym (ap (λ q. slice_get (queue_at q d.from d.to) 0) c.queues.ensures) ∙ sym c.head.ensures
    ∙ ap (option_map message_of) c.in_default-head.is)

pub returns-in-Err-clause-refused : goal.returns-in-Err-clause-refused
returns-in-Err-clause-refused g c =
    let d = c.args.direction in
    delivery_wants c.args.state.now c.args.state.now refl c.facts.ensures.sound d (message_of c.in-Some-head.head)
    (sym (ap (λ k. delivery_refusal k d) c.conf.ensures) ∙ sym c.delivery_refusal.ensures ∙ c.in_default.is)
    (sym (ap (λ q. slice_get (queue_at q d.from d.to) 0) c.queues.ensures) ∙ sym c.head.ensures
    ∙ ap (option_map message_of) c.in-Some-head.is)

pub returns-in-Ok-clause-allowed : goal.returns-in-Ok-clause-allowed
returns-in-Ok-clause-allowed g c =
    let d = c.args.direction in
    sym (ap (λ k. delivery_refusal k d) c.conf.ensures) ∙ sym c.delivery_refusal.ensures ∙ c.in_default.is

pub returns-in-Ok-clause-head : goal.returns-in-Ok-clause-head
returns-in-Ok-clause-head g c =
    let d = c.args.direction in
    sym (ap (λ q. slice_get (queue_at q d.from d.to) 0) c.queues.ensures) ∙ sym c.head.ensures
    ∙ ap (option_map message_of) c.in-Some-head.is ∙ ap Some (sym c.in-Ok.ensures)
