-- What a plan does says of which event it is.
use Rattle.std.proofs.Common.{◌≡◌, ◌<◌, true, false, Some, None, refl, sym, ap, subst, ◌∙◌}
use Rattle.std.proofs.lemmas.Option.{none-some, same_Some}
use Rattle.session_queue.specs.declared.direction.Direction.{Direction}
use Rattle.session_queue.specs.declared.message.Message.{Message}
use Rattle.session_queue.specs.Waiting.{spare_at, IsAdmitted}
use Rattle.net_conf.specs.Configuration.{has_session}
use Rattle.net_conf.specs.Costs.{is_up}
use Rattle.net_conf.specs.declared.edit.Edit.{Edit}
use Rattle.sim_event.specs.declared.event.Event.{Event}
use Rattle.sim_event.specs.declared.event.Event.TheVariants.{Edit as AnEdit, Feed as AFeed, Deliver, Ask as AnAsk}
use Rattle.sim_event.specs.declared.event.Ask.{Ask}
use Rattle.reference_machine.specs.Network.{Network, with_message, messages_in}
use Rattle.reference_machine.specs.Machine.{step, is_refusal, with_sent, after_edit, head_step, edit_step, question_step, delivery_refusal, feed_refusal, ask_refusal}
use Rattle.cell_engine.specs.State.{State, network}
use Rattle.cell_engine.specs.Deliveries.{HasRoom, IsOfHead}
use Rattle.cell_engine.specs.Edits.{Edited, IsPlanned, HasPlaces}
use Rattle.sim_core.specs.Plans.{Plan, Taken, IsPrepared}
use Rattle.sim_core.proofs.Accepted.{edit_accepted, edit_done, feed_accepted, feed_done, feed_session, delivery_accepted, delivery_is, delivery_up, question_answered, allowed}

-- EDITS

-- a plan with an edit's parts is that of an edit, with room
pub record IsEditing (e : State) (event : Event) (x : Edited) : Type 0 where
  pub edit : Edit
  pub named : event ≡ AnEdit edit
  pub is : IsPlanned e edit x
  pub room : HasPlaces e x
  pub next : (step (network e) event).next ≡ with_sent (network e) (after_edit (network e) edit)

edit_next : (e : State) (edit : Edit) (p : Plan) → IsPrepared e (AnEdit edit) p →
    (edit_step (network e) edit).next ≡ with_sent (network e) (after_edit (network e) edit)
edit_next e edit p is = ap (λ o. o.next)
    (edit_done (network e) edit (edit_accepted (network e) edit (sym (ap is_refusal is.reply) ∙ is.accepted)))

pub editing : (e : State) (event : Event) (p : Plan) → IsPrepared e event p → (x : Edited) → p.edited ≡ Some x →
    IsEditing e event x
editing e (AnEdit edit) p is x has =
    let same = same_Some is.does.plan x (sym is.does.edited ∙ has) in
    record {
      edit = edit;
      named = refl;
      is = subst (IsPlanned e edit) same is.does.is;
      room = subst (HasPlaces e) same is.does.room;
      next = edit_next e edit p is;
    }
editing e (AFeed f) p is x has = absurd (none-some x (sym is.does.edited ∙ has))
editing e (Deliver a b) p is x has = absurd (none-some x (sym is.does.edited ∙ has))
editing e (AnAsk q) p is x has = absurd (none-some x (sym is.does.edited ∙ has))

-- DELIVERIES

pub record IsTaking (e : State) (event : Event) (t : Taken) : Type 0 where
  pub up : is_up e.conf t.direction.from t.direction.to ≡ true
  pub head : IsOfHead e t.direction t.prefix t.outcome
  pub room : HasRoom e t.direction.to t.prefix t.outcome.sends
  pub next : (step (network e) event).next
      ≡ (head_step (network e) t.direction (messages_in (network e).queues t.direction)).next

pub taking_delivery : (e : State) (d : Direction) (p : Plan) (is : IsPrepared e (Deliver d.from d.to) p) →
    IsTaking e (Deliver d.from d.to) (record { direction = d; prefix = is.does.prefix; outcome = is.does.outcome })
unfolding network
taking_delivery e d p is =
    let none : delivery_refusal e.conf d ≡ None =
    delivery_accepted (network e) d (sym (ap is_refusal is.reply) ∙ is.accepted) in
    record {
      up = delivery_up e.conf d none;
      head = is.does.head;
      room = is.does.room;
      next = ap (λ o. o.next) (delivery_is (network e) d none);
    }

pub taking : (e : State) (event : Event) (p : Plan) → IsPrepared e event p → (t : Taken) →
    p.taken ≡ Some t → IsTaking e event t
taking e (AnEdit edit) p is t has = absurd (none-some t (sym is.does.taken ∙ has))
taking e (AFeed f) p is t has = absurd (none-some t (sym is.does.taken ∙ has))
taking e (Deliver a b) p is t has = subst (IsTaking e (Deliver a b)) (same_Some _ t (sym is.does.taken ∙ has))
    (taking_delivery e (record { from = a; to = b }) p is)
taking e (AnAsk q) p is t has = absurd (none-some t (sym is.does.taken ∙ has))

-- FEEDS

pub record IsPushing (e : State) (event : Event) (d : Direction) (m : Message) : Type 0 where
  pub session : has_session e.conf d.from d.to ≡ true
  pub room : 0 < spare_at e.queues d.from d.to
  pub admitted : IsAdmitted e.queues m
  pub next : (step (network e) event).next ≡ record (network e) { queues = with_message d m (network e).queues }

pub pushing : (e : State) (event : Event) (p : Plan) → IsPrepared e event p → (x : Direction × Message) →
    p.pushed ≡ Some x → IsPushing e event x.0 x.1
unfolding network
pushing e (AnEdit edit) p is x has = absurd (none-some x (sym is.does.pushed ∙ has))
pushing e (AFeed f) p is x has =
    let none : feed_refusal e.conf f ≡ None =
    feed_accepted (network e) f (sym (ap is_refusal is.reply) ∙ is.accepted) in
    subst (λ y. IsPushing e (AFeed f) y.0 y.1) (same_Some _ x (sym is.does.pushed ∙ has)) (record {
      session = feed_session e.conf f none;
      room = is.does.room;
      admitted = is.does.admitted;
      next = ap (λ o. o.next) (feed_done (network e) f none);
    })
pushing e (Deliver a b) p is x has = absurd (none-some x (sym is.does.pushed ∙ has))
pushing e (AnAsk q) p is x has = absurd (none-some x (sym is.does.pushed ∙ has))

-- QUESTIONS

asked : (s : Network) (q : Ask) → is_refusal (question_step s q).reply ≡ false → (question_step s q).next ≡ s
unfolding question_step
asked s q h = ap (λ o. o.next) (question_answered s q (allowed (ask_refusal s.conf q) s _ h))

-- a plan that does nothing is that of a question
pub nothing_done : (e : State) (event : Event) (p : Plan) → IsPrepared e event p → p.pushed ≡ None → p.taken ≡ None →
    p.edited ≡ None → (step (network e) event).next ≡ network e
nothing_done e (AnEdit edit) p is pushed taken edited = absurd (none-some is.does.plan (sym edited ∙ is.does.edited))
nothing_done e (AFeed f) p is pushed taken edited = absurd (none-some _ (sym pushed ∙ is.does.pushed))
nothing_done e (Deliver a b) p is pushed taken edited = absurd (none-some _ (sym taken ∙ is.does.taken))
nothing_done e (AnAsk q) p is pushed taken edited = asked (network e) q (sym (ap is_refusal is.reply) ∙ is.accepted)
