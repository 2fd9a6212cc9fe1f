-- What the machine does with an event that it does not refuse.
use Rattle.std.proofs.Common.{◌≡◌, Bool, true, false, not, List, [], ◌∷◌, slice_get, Option, Some, None, if◌then◌else◌, refl, sym, ap, ◌∙◌}
use Rattle.std.proofs.lemmas.Bool.{true≢false}
use Rattle.std.proofs.lemmas.Option.{none-some, same_Some}
use Rattle.net_prefix.specs.Prefix.{Prefix}
use Rattle.session_queue.specs.declared.direction.Direction.{Direction}
use Rattle.session_queue.specs.declared.message.Message.{Message}
use Rattle.session_queue.specs.declared.message.MessageKind.{MessageKind}
use Rattle.session_queue.specs.Telling.{prefix_of, kind_of}
use Rattle.session_queue.specs.Waiting.{queue_at}
use Rattle.net_conf.specs.Configuration.{Configuration, has_session}
use Rattle.net_conf.specs.Costs.{is_up}
use Rattle.net_conf.specs.declared.edit.Edit.{Edit}
use Rattle.net_conf.specs.declared.refusal.Refusal.{Refusal}
use Rattle.net_conf.specs.declared.refusal.Refusal.TheVariants.{NoRouter, NoSession, SessionDown, BadEnd, QueueEmpty}
use Rattle.net_conf.specs.Edits.{refusal_of}
use Rattle.sim_event.specs.declared.event.Feed.{Feed}
use Rattle.sim_event.specs.declared.event.Ask.{Ask}
use Rattle.sim_event.specs.declared.reply.Reply.{Reply}
use Rattle.sim_event.specs.declared.reply.Reply.TheVariants.{Done, Took, Report as AReport}
use Rattle.reference_machine.specs.Network.{Network, messages_in}
use Rattle.reference_machine.specs.Machine.{Outcome, unless_refused, refused, is_refusal, edit_step, after_edit, with_sent, feed_refusal, feed_step, after_feed, delivery_refusal, delivery_step, head_step, ask_refusal, question_step, report_of}
use Rattle.cell_engine.specs.State.{State, IsConsistent, network}
use Rattle.cell_engine.proofs.Queues.{messages_on_session}

passes : (test : Bool) (refusal : Refusal) (later : Option Refusal) → (if test then Some refusal else later) ≡ None →
    test ≡ false
passes true refusal later is = absurd (none-some refusal (sym is))
passes false refusal later is = refl

later_passes : (test : Bool) (refusal : Refusal) (later : Option Refusal) →
    (if test then Some refusal else later) ≡ None → later ≡ None
later_passes true refusal later is = absurd (none-some refusal (sym is))
later_passes false refusal later is = is

not_false : (b : Bool) → not b ≡ false → b ≡ true
not_false true h = refl
not_false false h = absurd (true≢false h)

-- what is not refused passes the tests
pub allowed : (r : Option Refusal) (s : Network) (o : Outcome) → is_refusal (unless_refused r s o).reply ≡ false →
    r ≡ None
allowed None s o h = refl
allowed (Some r) s o h = absurd (true≢false h)

-- EDITS

pub edit_accepted : (s : Network) (edit : Edit) → is_refusal (edit_step s edit).reply ≡ false →
    refusal_of s.conf edit ≡ None
unfolding edit_step
edit_accepted s edit h = allowed (refusal_of s.conf edit) s _ h

pub edit_done : (s : Network) (edit : Edit) → refusal_of s.conf edit ≡ None →
    edit_step s edit ≡ record { reply = Done; next = with_sent s (after_edit s edit) }
unfolding edit_step
edit_done s edit none = ap (λ r. unless_refused r s (record { reply = Done; next = with_sent s (after_edit s edit) }))
    none

pub edit_refused : (s : Network) (edit : Edit) (r : Refusal) → refusal_of s.conf edit ≡ Some r →
    edit_step s edit ≡ refused r s
unfolding edit_step
edit_refused s edit r is =
    ap (λ o. unless_refused o s (record { reply = Done; next = with_sent s (after_edit s edit) })) is

-- FEEDS

pub feed_accepted : (s : Network) (f : Feed) → is_refusal (feed_step s f).reply ≡ false → feed_refusal s.conf f ≡ None
unfolding feed_step
feed_accepted s f h = allowed (feed_refusal s.conf f) s _ h

pub feed_done : (s : Network) (f : Feed) → feed_refusal s.conf f ≡ None →
    feed_step s f ≡ record { reply = Done; next = after_feed s f }
unfolding feed_step
feed_done s f none = ap (λ r. unless_refused r s (record { reply = Done; next = after_feed s f })) none

pub feed_refused : (s : Network) (f : Feed) (r : Refusal) → feed_refusal s.conf f ≡ Some r → feed_step s f ≡ refused r s
unfolding feed_step
feed_refused s f r is = ap (λ o. unless_refused o s (record { reply = Done; next = after_feed s f })) is

-- a feed goes over a session
pub feed_session : (c : Configuration) (f : Feed) → feed_refusal c f ≡ None → has_session c f.from f.to ≡ true
unfolding feed_refusal
feed_session c f none =
    not_false (has_session c f.from f.to)
    (passes (not (has_session c f.from f.to)) NoSession
    _ (later_passes _ BadEnd _ (later_passes _ NoRouter _ none)))

-- DELIVERIES

pub delivery_accepted : (s : Network) (d : Direction) → is_refusal (delivery_step s d).reply ≡ false →
    delivery_refusal s.conf d ≡ None
unfolding delivery_step
delivery_accepted s d h = allowed (delivery_refusal s.conf d) s _ h

pub delivery_is : (s : Network) (d : Direction) → delivery_refusal s.conf d ≡ None →
    delivery_step s d ≡ head_step s d (messages_in s.queues d)
unfolding delivery_step
delivery_is s d none = ap (λ r. unless_refused r s (head_step s d (messages_in s.queues d))) none

pub delivery_refused : (s : Network) (d : Direction) (r : Refusal) → delivery_refusal s.conf d ≡ Some r →
    delivery_step s d ≡ refused r s
unfolding delivery_step
delivery_refused s d r is = ap (λ o. unless_refused o s (head_step s d (messages_in s.queues d))) is

-- a delivery goes over a session
pub delivery_session : (c : Configuration) (d : Direction) → delivery_refusal c d ≡ None →
    has_session c d.from d.to ≡ true
unfolding delivery_refusal
delivery_session c d none =
    not_false (has_session c d.from d.to)
    (passes (not (has_session c d.from d.to)) NoSession _ (later_passes _ NoRouter _ none))

-- which is up
pub delivery_up : (c : Configuration) (d : Direction) → delivery_refusal c d ≡ None → is_up c d.from d.to ≡ true
unfolding delivery_refusal
delivery_up c d none =
    not_false (is_up c d.from d.to)
    (passes (not (is_up c d.from d.to)) SessionDown _ (later_passes _ NoSession _ (later_passes _ NoRouter _ none)))

took_prefix : Prefix → Reply → Prefix
took_prefix p (Took q k) = q
took_prefix p _ = p

module _ (e : State) (sound : IsConsistent e) (d : Direction) (none : delivery_refusal e.conf d ≡ None) where
  refusal_of_network : delivery_refusal (network e).conf d ≡ None
  unfolding network
  refusal_of_network = none

  -- the head is taken
  pub delivery_takes : (m : Message) → slice_get (queue_at e.queues d.from d.to) 0 ≡ Some m →
      (delivery_step (network e) d).reply ≡ Took (prefix_of m) (kind_of m)
  delivery_takes m first = by (queue_at e.queues d.from d.to) refl first
    where
      by : (ms : List Message) → queue_at e.queues d.from d.to ≡ ms → slice_get ms 0 ≡ Some m →
          (delivery_step (network e) d).reply ≡ Took (prefix_of m) (kind_of m)
      by [] waits is = absurd (none-some m is)
      by (w ∷ ws) waits is =
          ap (λ o. o.reply) (delivery_is (network e) d refusal_of_network
          ∙ ap (head_step (network e) d) (messages_on_session e sound d (delivery_session e.conf d none)
          ∙ ap Some waits))
          ∙ ap (λ x. Took (prefix_of x) (kind_of x)) (same_Some w m is)

  -- and its prefix is told
  pub prefix_taken : (m : Message) → slice_get (queue_at e.queues d.from d.to) 0 ≡ Some m →
      (q : Prefix) (k : MessageKind) → (delivery_step (network e) d).reply ≡ Took q k → prefix_of m ≡ q
  unfolding took_prefix
  prefix_taken m first q k took = ap (took_prefix (prefix_of m)) (sym (delivery_takes m first) ∙ took)

  -- or there is none
  pub delivery_of_nothing : slice_get (queue_at e.queues d.from d.to) 0 ≡ None →
      delivery_step (network e) d ≡ refused QueueEmpty (network e)
  delivery_of_nothing first = by (queue_at e.queues d.from d.to) refl first
    where
      by : (ms : List Message) → queue_at e.queues d.from d.to ≡ ms → slice_get ms 0 ≡ None →
          delivery_step (network e) d ≡ refused QueueEmpty (network e)
      by [] waits is = delivery_is (network e) d refusal_of_network
          ∙ ap (head_step (network e) d) (messages_on_session e sound d (delivery_session e.conf d none)
          ∙ ap Some waits)
      by (w ∷ ws) waits is = absurd (none-some w (sym is))

-- QUESTIONS

pub question_answered : (s : Network) (q : Ask) → ask_refusal s.conf q ≡ None →
    question_step s q ≡ record { reply = AReport (report_of s q); next = s }
unfolding question_step
question_answered s q none = ap (λ r. unless_refused r s (record { reply = AReport (report_of s q); next = s })) none

pub question_refused : (s : Network) (q : Ask) (r : Refusal) → ask_refusal s.conf q ≡ Some r →
    question_step s q ≡ refused r s
unfolding question_step
question_refused s q r is = ap (λ o. unless_refused o s (record { reply = AReport (report_of s q); next = s })) is
