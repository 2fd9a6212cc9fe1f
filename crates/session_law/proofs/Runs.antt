-- Each step keeps the law, and so does a run.
use Rattle.std.proofs.Common.{◌≡◌, inl, inr, Bool, true, false, not, ◌&&◌, ◌||◌, List, [], ◌∷◌, Option, Some, None, unwrap_or, refl, sym, ap, ◌∙◌, subst}
use Rattle.std.specs.List.{list_all}
use Rattle.std.proofs.lemmas.Bool.{and_parts, or_parts, not-false}
use Rattle.net_prefix.specs.declared.addr.Addr.{Addr}
use Rattle.net_prefix.specs.Prefix.{Prefix}
use Rattle.session_queue.specs.declared.message.Message.{Message}
use Rattle.session_queue.specs.declared.direction.Direction.{Direction}
use Rattle.net_conf.specs.Configuration.{Configuration, has_node, is_virtual, has_session}
use Rattle.net_conf.specs.Costs.{is_up}
use Rattle.net_conf.specs.Edits.{refusal_of}
use Rattle.net_conf.specs.declared.edit.Edit.{Edit}
use Rattle.net_conf.specs.declared.refusal.Refusal.{Refusal}
use Rattle.net_conf.specs.declared.refusal.Refusal.TheVariants.{NoRouter, BadEnd, NoSession, SessionDown, FirstAs, Limit}
use Rattle.sim_event.specs.declared.event.Event.{Event}
use Rattle.sim_event.specs.declared.event.Event.TheVariants.{Edit as AnEdit, Feed as AFeed, Deliver, Ask as AnAsk}
use Rattle.sim_event.specs.declared.event.Feed.{Feed}
use Rattle.sim_event.specs.declared.event.Ask.{Ask}
use Rattle.sim_event.specs.declared.reply.Reply.{Reply}
use Rattle.reference_machine.specs.declared.rows.Queue.{Queue}
use Rattle.reference_machine.specs.Network.{Network, is_of, messages_in}
use Rattle.reference_machine.specs.Decision.{route_from}
use Rattle.reference_machine.specs.Reports.{is_empty, is_quiet}
use Rattle.reference_machine.specs.Machine.{nothing, Outcome, unless_refused, after_edit, edit_step, has_foreign_first, is_too_long, carries_too_many, fed_message, feed_refusal, feed_step, taken, head_step, delivery_refusal, delivery_step, ask_refusal, question_step, step, IsStep, IsRun}
use Rattle.session_law.specs.SessionLaw.{after_messages, applied, SessionLaw, QuietLaw}
use Rattle.session_law.proofs.Configs.{all_fail, passes}
use Rattle.session_law.proofs.Told.{direction, IsTold, sends_parts, applied_up, told_sent, told_nothing}
use Rattle.session_law.proofs.Steps.{turned_taken, told_fed}
use Rattle.session_law.proofs.Edits.{turned_edited}

-- STEPS

-- a refused event changes nothing
pub kept_unless : (K : Network → Type 0) (o : Option Refusal) (s : Network) (outcome : Outcome) → K s →
    (o ≡ None → K outcome.next) → K (unless_refused o s outcome).next
kept_unless K (Some r) s outcome was kept = was
kept_unless K None s outcome was kept = kept refl

kept_edit : (s : Network) (e : Edit) → IsTold s → IsTold (edit_step s e).next
unfolding edit_step
kept_edit s e told =
    kept_unless IsTold (refusal_of s.conf e) s _ told
    (λ passed. told_sent s (after_edit s e) (turned_edited s e told (passes s.conf e passed)))

abbrev pub feed_tests : Configuration → Feed → List (Bool × Refusal)
feed_tests c f =
    (not (has_node c f.from && has_node c f.to), NoRouter)
    ∷ (not (is_virtual c f.from) || is_virtual c f.to, BadEnd)
    ∷ (not (has_session c f.from f.to), NoSession)
    ∷ (not (is_up c f.from f.to), SessionDown)
    ∷ (has_foreign_first c f.from f.news, FirstAs)
    ∷ (is_too_long f.news || carries_too_many f.news, Limit)
    ∷ []

-- who feeds is a virtual peer, over a session that is up
pub feeder : (c : Configuration) (f : Feed) → feed_refusal c f ≡ None → (is_virtual c f.from ≡ true)
    × (is_up c f.from f.to ≡ true)
unfolding feed_refusal
feeder c f none =
    let t = all_fail (feed_tests c f) none in (
      not-false (is_virtual c f.from) (or_parts (not (is_virtual c f.from)) (is_virtual c f.to) t.1.0).0,
      not-false (is_up c f.from f.to) t.1.1.1.0,
    )

kept_feed : (s : Network) (f : Feed) → IsTold s → IsTold (feed_step s f).next
unfolding feed_step
kept_feed s f told =
    kept_unless IsTold (feed_refusal s.conf f) s _ told (λ passed. let from = feeder s.conf f passed in
    told_fed s (direction f.from f.to) (fed_message f.from f.news) told from.1 from.0)

pub delivered_up : (c : Configuration) (d : Direction) → delivery_refusal c d ≡ None → is_up c d.from d.to ≡ true
unfolding delivery_refusal
delivered_up c d none =
    let t = all_fail ((not (has_node c d.from && has_node c d.to), NoRouter) ∷ (
      not (has_session c d.from d.to),
      NoSession,
    ) ∷ (not (is_up c d.from d.to), SessionDown) ∷ []) none in
    not-false (is_up c d.from d.to) t.1.1.0

kept_head : (s : Network) (d : Direction) → IsTold s → is_up s.conf d.from d.to ≡ true → (o : Option (List Message)) →
    messages_in s.queues d ≡ o → IsTold (head_step s d o).next
kept_head s d told up None is = told
kept_head s d told up (Some []) is = told
kept_head s d told up (Some (m ∷ ms)) is = told_sent s (taken s d m) (turned_taken s d m ms told up is)

kept_delivery : (s : Network) (d : Direction) → IsTold s → IsTold (delivery_step s d).next
unfolding delivery_step
kept_delivery s d told =
    kept_unless IsTold (delivery_refusal s.conf d) s (head_step s d (messages_in s.queues d)) told
    (λ passed. kept_head s d told (delivered_up s.conf d passed) (messages_in s.queues d) refl)

kept_question : (s : Network) (q : Ask) → IsTold s → IsTold (question_step s q).next
unfolding question_step
kept_question s q told = kept_unless IsTold (ask_refusal s.conf q) s _ told (λ passed. told)

-- the machine's own step keeps it
pub kept_step : (s : Network) (e : Event) → IsTold s → IsTold (step s e).next
kept_step s (AnEdit e) told = kept_edit s e told
kept_step s (AFeed f) told = kept_feed s f told
kept_step s (Deliver a b) told = kept_delivery s (direction a b) told
kept_step s (AnAsk q) told = kept_question s q told

pub told_step : (s mid : Network) (e : Event) (r : Reply) → IsTold s → IsStep s e r mid → IsTold mid
told_step s mid e r told (inl own) = subst IsTold (sym own.1) (kept_step s e told)
told_step s mid e r told (inr none) = subst IsTold (sym none.1) told

-- RUNS

told_run : (es : List Event) (rs : List Reply) (s s' : Network) → IsTold s → IsRun s es rs s' → IsTold s'
told_run [] [] s s' told run = subst IsTold (sym run) told
told_run [] (r ∷ rs) s s' told run = absurd run
told_run (e ∷ es) [] s s' told run = absurd run
told_run (e ∷ es) (r ∷ rs) s s' told (mid, one, later) = told_run es rs mid s' (told_step s mid e r told one) later

pub session_law : SessionLaw
session_law es rs s run r t p is = (told_run es rs nothing s told_nothing run).law r t p is

-- QUIET

no_messages : (ms : List Message) → is_empty ms ≡ true → ms ≡ []
no_messages [] h = refl
no_messages (m ∷ ms) h = absurd (some_message h) where
  some_message : false ≡ true → ⊥
  some_message e = cc

quiet_step : (b : Bool) (d : Direction) (q : Queue) (qs : List Queue) → is_of d q ≡ b → q.messages ≡ [] →
    unwrap_or (messages_in qs d) [] ≡ [] → unwrap_or (messages_in (q ∷ qs) d) [] ≡ []
quiet_step true d q qs is none rest = rw is none
quiet_step false d q qs is none rest = rw is rest

quiet_at : (d : Direction) (qs : List Queue) → list_all (λ q. is_empty q.messages) qs ≡ true →
    unwrap_or (messages_in qs d) [] ≡ []
quiet_at d [] h = refl
quiet_at d (q ∷ qs) h =
    let parts = and_parts (is_empty q.messages) (list_all (λ x. is_empty x.messages) qs) h in
    quiet_step (is_of d q) d q qs refl (no_messages q.messages parts.0) (quiet_at d qs parts.1)

quiet_applied : (s : Network) (r t : Addr) (p : Prefix) → is_quiet s ≡ true → is_up s.conf r t ≡ true →
    applied s r t p ≡ route_from s.received t p r
unfolding is_quiet
quiet_applied s r t p quiet up = applied_up s r t p up
    ∙ ap (after_messages p (route_from s.received t p r)) (quiet_at (direction r t) s.queues quiet)

pub quiet_law : QuietLaw
quiet_law es rs s run quiet r t p is = sym (quiet_applied s r t p quiet (sends_parts s.conf r t is).2)
    ∙ session_law es rs s run r t p is
