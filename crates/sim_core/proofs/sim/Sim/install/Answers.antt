use Rattle.std.proofs.Common.{◌≡◌, slice_get, Some, option_map, ap, sym, subst, ◌∙◌}
use Rattle.session_queue.specs.Telling.{message_of}
use Rattle.session_queue.specs.Waiting.{queue_at}
use Rattle.sim_event.specs.declared.event.Event.TheVariants.{Deliver}
use Rattle.sim_event.specs.declared.reply.Reply.TheVariants.{Took}
use Rattle.reference_machine.specs.Network.{messages_in}
use Rattle.reference_machine.specs.Machine.{step, delivery_refusal, head_step}
use Rattle.cell_engine.specs.State.{network}
use Rattle.cell_engine.specs.Deliveries.{IsOfHead}
use Rattle.sim_core.specs.Counting.{Counted, Counts}
use Rattle.sim_core.specs.Installing.{IsOutcomeOfHead}
use Rattle.sim_core.proofs.Accepted.{delivery_up, delivery_takes}
use Rattle.sim_core.proofs.Delivering.{counts}
use Rattle.sim_core.proofs.Installed.{of_head, next_is}
use Rattle.sim_core.proofs.sim.Sim.install.Goals as goal

pub install-requires-clause-up : goal.install-requires-clause-up
install-requires-clause-up g c =
    let d = c.args.direction in
    delivery_up c.self.inside.state.conf d (ap (λ (s : Counted). delivery_refusal s.engine.conf d) c.self.view_is
    ∙ c.requires.allowed)

pub install-requires-clause-head : goal.install-requires-clause-head
install-requires-clause-head g c =
    let e = c.self.inside.state in
    let d = c.args.direction in
    let o = c.args.outcome in
    let m = message_of c.in-Some.head in
    let first : slice_get (queue_at e.queues d.from d.to) 0 ≡ Some m =
    sym (ap (λ q. slice_get (queue_at q d.from d.to) 0) c.queues.ensures) ∙ sym c.head.ensures
    ∙ ap (option_map message_of) c.in-Some.is in
    let is : IsOutcomeOfHead e d o = subst (λ (s : Counted). IsOutcomeOfHead s.engine d o)
    (sym c.self.view_is) c.requires.head in
    subst (λ p. IsOfHead e d p o) (sym c.prefix-prefix.ensures) (of_head e d o is m first)

pub returns-clause-reply : goal.returns-clause-reply
returns-clause-reply g c =
    let e = c.self.inside.state in
    let d = c.args.direction in
    let m = message_of c.in-Some.head in
    let none = ap (λ (s : Counted). delivery_refusal s.engine.conf d) c.self.view_is ∙ c.requires.allowed in
    let first : slice_get (queue_at e.queues d.from d.to) 0 ≡ Some m =
    sym (ap (λ q. slice_get (queue_at q d.from d.to) 0) c.queues.ensures) ∙ sym c.head.ensures
    ∙ ap (option_map message_of) c.in-Some.is in
    (λ i. Took (c.prefix-prefix.ensures i) (c.kind-kind.ensures i))
    ∙ sym (delivery_takes e c.facts.ensures.sound d none m first)
    ∙ ap (λ (s : Counted). (step (network s.engine) (Deliver d.from d.to)).reply) c.self.view_is

pub returns-clause-next : goal.returns-clause-next
returns-clause-next g c =
    let d = c.args.direction in
    c.in_ok-install.ensures.next
    ∙ ap (λ (s : Counted). (head_step (network s.engine) d (messages_in (network s.engine).queues d)).next)
    c.self.view_is
    ∙ sym (next_is c.args.self.now.engine d c.requires.allowed)

pub returns-clause-decided : goal.returns-clause-decided
returns-clause-decided g c =
    let e = c.self.inside.state in
    let d = c.args.direction in
    let m = message_of c.in-Some.head in
    let n = c.self.inside.decided in
    let reply = Took c.prefix-prefix.result c.kind-kind.result in
    let none = ap (λ (s : Counted). delivery_refusal s.engine.conf d) c.self.view_is ∙ c.requires.allowed in
    let first : slice_get (queue_at e.queues d.from d.to) 0 ≡ Some m =
    sym (ap (λ q. slice_get (queue_at q d.from d.to) 0) c.queues.ensures) ∙ sym c.head.ensures
    ∙ ap (option_map message_of) c.in-Some.is in
    subst (λ (s : Counted). Counts (network s.engine) (Deliver d.from d.to) reply s.decided c.raised-self-inside.result)
    c.self.view_is
    (subst (λ k. Counts (network e) (Deliver d.from d.to) reply n k) (sym c.raised-self-inside.ensures)
    (counts e c.facts.ensures.sound d none m first n c.decisions_at-more.result c.decisions_at-more.ensures))
