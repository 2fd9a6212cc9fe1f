-- In a state that a legal history leaves, a message that waits can be delivered.
use Rattle.std.proofs.Common.{◌≡◌, Bool, true, false, not, ◌&&◌, List, [], ◌∷◌, Option, Some, None, unwrap_or, refl, sym, ap, ◌∙◌}
use Rattle.session_queue.specs.declared.message.Message.{Message}
use Rattle.session_queue.specs.declared.direction.Direction.{Direction}
use Rattle.session_queue.specs.Waiting.{queue_at}
use Rattle.net_conf.specs.Configuration.{has_session}
use Rattle.net_conf.specs.Costs.{is_up}
use Rattle.net_conf.specs.Edits.{first_of}
use Rattle.net_conf.specs.declared.refusal.Refusal.TheVariants.{NoRouter, NoSession, SessionDown}
use Rattle.sim_event.specs.declared.entry.Entry.{Entry}
use Rattle.reference_machine.specs.Network.{Network}
use Rattle.reference_machine.specs.Machine.{nothing, step, delivery_refusal}
use Rattle.reference_machine.specs.Histories.{after_calls, state_after}
use Rattle.session_law.proofs.Configs.{session_either}
use Rattle.session_law.proofs.Told.{IsTidy, IsTold, told_nothing}
use Rattle.session_law.proofs.Runs.{kept_step}
use Rattle.cell_engine.specs.State.{State, IsConsistent, network}
use Rattle.cell_engine.proofs.Queues.{messages_on_session}

told_after : (s : Network) → IsTold s → (h : List Entry) → IsTold (after_calls s h)
told_after s told [] = told
told_after s told (e ∷ es) = told_after (step s e.event).next (kept_step s e.event told) es

-- what holds of every state that a history leaves
pub tidy_after : (h : List Entry) → IsTidy (state_after h)
tidy_after h = (told_after nothing told_nothing h).tidy

not_empty : (m : Message) (ms : List Message) → m ∷ ms ≡ [] → ⊥
not_empty m ms e = cc

module _ (e : State) (sound : IsConsistent e) (tidy : IsTidy (network e)) (d : Direction) (m : Message)
    (ms : List Message) (waits : queue_at e.queues d.from d.to ≡ m ∷ ms) where
  session_by : (b : Bool) → has_session e.conf d.from d.to ≡ b → has_session e.conf d.from d.to ≡ true
  session_by true is = is
  session_by false is = absurd (not_empty m ms (sym waits ∙ sound.silent d.from d.to is))

  session : has_session e.conf d.from d.to ≡ true
  session = session_by (has_session e.conf d.from d.to) refl

  up_by : (b : Bool) → is_up e.conf d.from d.to ≡ b → is_up e.conf d.from d.to ≡ true
  unfolding network
  up_by true is = is
  up_by false is =
      absurd (not_empty m ms (ap (λ (o : Option (List Message)). unwrap_or o [])
      (sym (messages_on_session e sound d session ∙ ap Some waits)) ∙ tidy.no_message d.from d.to is))

  up : is_up e.conf d.from d.to ≡ true
  up = up_by (is_up e.conf d.from d.to) refl

  -- nothing refuses its delivery
  pub not_refused : delivery_refusal e.conf d ≡ None
  unfolding network delivery_refusal
  not_refused =
      let from = tidy.placed d.from d.to session in
      let to = tidy.placed d.to d.from (session_either e.conf d.to d.from ∙ session) in
      λ i. first_of ((not (from i && to i), NoRouter) ∷ (not (session i), NoSession) ∷ (not (up i), SessionDown) ∷ [])
