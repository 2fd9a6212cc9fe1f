-- A delivery whose outcome was made beside the machine.
use Rattle.std.proofs.Common.{◌≡◌, slice_get, Some, None, sym, ap, ◌∙◌}
use Rattle.std.proofs.lemmas.Option.{same_Some}
use Rattle.session_queue.specs.declared.direction.Direction.{Direction}
use Rattle.session_queue.specs.declared.message.Message.{Message}
use Rattle.session_queue.specs.Telling.{prefix_of}
use Rattle.session_queue.specs.Waiting.{queue_at}
use Rattle.sim_event.specs.declared.event.Event.TheVariants.{Deliver}
use Rattle.reference_machine.specs.Network.{messages_in}
use Rattle.reference_machine.specs.Machine.{step, head_step, delivery_refusal}
use Rattle.cell_engine.specs.Cells.{Outcome}
use Rattle.cell_engine.specs.State.{State, network}
use Rattle.cell_engine.specs.Deliveries.{IsOfHead, outcome_at}
use Rattle.cell_engine.proofs.Growth.{head_of}
use Rattle.sim_core.specs.Installing.{IsOutcomeOfHead}
use Rattle.sim_core.proofs.Accepted.{delivery_is}

pub of_head : (e : State) (d : Direction) (o : Outcome) → IsOutcomeOfHead e d o → (m : Message) →
    slice_get (queue_at e.queues d.from d.to) 0 ≡ Some m → IsOfHead e d (prefix_of m) o
of_head e d o head m is =
    let same : head.message ≡ m = same_Some head.message m (sym (ap (λ ms. slice_get ms 0) head.waits) ∙ is) in
    head_of e d m o is (head.outcome ∙ ap (outcome_at e d) same)

-- the machine's own step takes the head
pub next_is : (e : State) (d : Direction) → delivery_refusal e.conf d ≡ None →
    (step (network e) (Deliver d.from d.to)).next ≡ (head_step (network e) d (messages_in (network e).queues d)).next
unfolding network
next_is e d none = ap (λ x. x.next) (delivery_is (network e) d none)
