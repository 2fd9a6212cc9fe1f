-- Why an event is refused: for the machine's own reason, or for want of memory.
use Rattle.std.proofs.Common.{◌≡◌, false, slice_get, Option, Some, None, Err, inl, inr, refl, sym, ap, subst, ◌∙◌}
use Rattle.session_queue.specs.declared.direction.Direction.{Direction}
use Rattle.session_queue.specs.declared.message.Message.{Message}
use Rattle.session_queue.specs.Waiting.{queue_at}
use Rattle.net_conf.specs.declared.edit.Edit.{Edit}
use Rattle.net_conf.specs.declared.refusal.Refusal.{Refusal}
use Rattle.net_conf.specs.declared.refusal.Refusal.TheVariants.{Memory, QueueEmpty}
use Rattle.net_conf.specs.Edits.{refusal_of, refusal_or_memory}
use Rattle.sim_event.specs.declared.event.Event.{Event}
use Rattle.sim_event.specs.declared.event.Event.TheVariants.{Edit as AnEdit, Feed as AFeed, Deliver, Ask as AnAsk}
use Rattle.sim_event.specs.declared.event.Feed.{Feed}
use Rattle.sim_event.specs.declared.event.Ask.{Ask}
use Rattle.reference_machine.specs.Machine.{step, is_refusal, asks_quiet, feed_refusal, delivery_refusal, ask_refusal}
use Rattle.cell_engine.specs.State.{State, IsConsistent, network}
use Rattle.sim_core.specs.Answers.{IsAnswer}
use Rattle.sim_core.specs.Plans.{IsRefused}
use Rattle.sim_core.proofs.Accepted.{edit_refused, edit_done, feed_refused, feed_done, delivery_refused, delivery_takes, delivery_of_nothing, question_refused, question_answered}

-- want of memory, where the network is the same as when the machine would not have refused
wanted : (e e' : State) → network e' ≡ network e → (event : Event) → asks_quiet event ≡ false →
    is_refusal (step (network e) event).reply ≡ false → IsRefused e' event Memory
wanted e e' same event quiet h = inr (refl, ap (λ n. is_refusal (step n event).reply) same ∙ h, quiet)

pub edit_denied : (e : State) (edit : Edit) (r : Refusal) → refusal_of e.conf edit ≡ Some r →
    IsRefused e (AnEdit edit) r
unfolding network
edit_denied e edit r is = inl (edit_refused (network e) edit r is)

pub edit_wants : (e e' : State) → network e' ≡ network e → (edit : Edit) → refusal_of e.conf edit ≡ None →
    IsRefused e' (AnEdit edit) Memory
unfolding network
edit_wants e e' same edit none =
    wanted e e' same (AnEdit edit) refl (ap (λ o. is_refusal o.reply) (edit_done (network e) edit none))

pub feed_denied : (e : State) (f : Feed) (r : Refusal) → feed_refusal e.conf f ≡ Some r → IsRefused e (AFeed f) r
unfolding network
feed_denied e f r is = inl (feed_refused (network e) f r is)

pub feed_wants : (e e' : State) → network e' ≡ network e → (f : Feed) → feed_refusal e.conf f ≡ None →
    IsRefused e' (AFeed f) Memory
unfolding network
feed_wants e e' same f none =
    wanted e e' same (AFeed f) refl (ap (λ o. is_refusal o.reply) (feed_done (network e) f none))

pub delivery_denied : (e : State) (d : Direction) (r : Refusal) → delivery_refusal e.conf d ≡ Some r →
    IsRefused e (Deliver d.from d.to) r
unfolding network
delivery_denied e d r is = inl (delivery_refused (network e) d r is)

pub delivery_denied_empty : (e : State) → IsConsistent e → (d : Direction) → delivery_refusal e.conf d ≡ None →
    slice_get (queue_at e.queues d.from d.to) 0 ≡ None → IsRefused e (Deliver d.from d.to) QueueEmpty
delivery_denied_empty e sound d none first = inl (delivery_of_nothing e sound d none first)

pub delivery_wants : (e e' : State) → network e' ≡ network e → IsConsistent e → (d : Direction) (m : Message) →
    delivery_refusal e.conf d ≡ None → slice_get (queue_at e.queues d.from d.to) 0 ≡ Some m →
    IsRefused e' (Deliver d.from d.to) Memory
delivery_wants e e' same sound d m none first =
    wanted e e' same (Deliver d.from d.to) refl (ap is_refusal (delivery_takes e sound d none m first))

pub question_denied : (e : State) (q : Ask) (r : Refusal) → IsAnswer (network e) q (Err r) → IsRefused e (AnAsk q) r
question_denied e q r h = by (ask_refusal (network e).conf q) refl
  where
    by : (o : Option Refusal) → ask_refusal (network e).conf q ≡ o → IsRefused e (AnAsk q) r
    by None is = subst (IsRefused e (AnAsk q)) (sym (ap refusal_or_memory is)
        ∙ h.0) (wanted e e refl (AnAsk q) h.1 (ap (λ o. is_refusal o.reply) (question_answered (network e) q is)))
    by (Some s) is = inl (question_refused (network e) q r (is ∙ ap Some (sym (ap refusal_or_memory is) ∙ h.0)))
