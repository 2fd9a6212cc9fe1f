-- The machine: what each event does, and runs of events.
use Rattle.std.specs.Prelude.{◌≡◌, ℕ, Bool, true, false, not, ◌&&◌, ◌||◌, nat_lt, ◌⊎◌, List, [], ◌∷◌, length, map, filter, Option, Some, None, Result, Ok, Err, if◌then◌else◌}
use Rattle.net_prefix.specs.declared.addr.Addr.{Addr}
use Rattle.path_attr.specs.declared.attr.Attr.{Attr}
use Rattle.path_attr.specs.Attribute.{plain_attr}
use Rattle.path_attr.specs.Path.{neighbour, number_count}
use Rattle.path_attr.specs.Number.{same_number}
use Rattle.session_queue.specs.declared.message.Message.{Message}
use Rattle.session_queue.specs.declared.message.Message.TheVariants.{Update as AnUpdate, Withdraw as AWithdrawal}
use Rattle.session_queue.specs.Telling.{prefix_of, kind_of}
use Rattle.net_conf.specs.Configuration.{Configuration, unconfigured, has_node, is_virtual, as_of, has_session}
use Rattle.net_conf.specs.Costs.{is_up}
use Rattle.net_conf.specs.declared.edit.Edit.{Edit}
use Rattle.net_conf.specs.declared.edit.Edit.TheVariants.{Join}
use Rattle.net_conf.specs.declared.refusal.Refusal.{Refusal}
use Rattle.net_conf.specs.declared.refusal.Refusal.TheVariants.{NoRouter, BadEnd, NoSession, SessionDown, QueueEmpty, FirstAs, Limit, Memory}
use Rattle.net_conf.specs.Edits.{first_of, refusal_of, edited}
use Rattle.sim_event.specs.declared.event.Event.{Event}
use Rattle.sim_event.specs.declared.event.Event.TheVariants.{Edit as AnEdit, Feed as AFeed, Deliver, Ask as AnAsk}
use Rattle.sim_event.specs.declared.event.Feed.{Feed}
use Rattle.sim_event.specs.declared.event.FedRoute.{FedRoute}
use Rattle.sim_event.specs.declared.event.News.{News}
use Rattle.sim_event.specs.declared.event.News.TheVariants.{Update, Withdraw}
use Rattle.sim_event.specs.declared.event.Ask.{Ask}
use Rattle.sim_event.specs.declared.event.Ask.TheVariants.{Routes, Best, Why, In, Out, Queue as QueueOf, Quiet, Cost, Trace}
use Rattle.sim_event.specs.declared.reply.Report.{Report}
use Rattle.sim_event.specs.declared.reply.Report.TheVariants.{Routes as TheRoutes, Best as TheBest, Why as TheReasons, Rib, Queue as TheQueue, Quiet as IsQuiet, Cost as TheCost, Trace as TheTrace}
use Rattle.sim_event.specs.declared.reply.Reply.{Reply}
use Rattle.sim_event.specs.declared.reply.Reply.TheVariants.{Done, Took, Report as AReport, Refused}
use Rattle.session_queue.specs.declared.direction.Direction.{Direction}
use Rattle.reference_machine.specs.declared.rows.RouteKey.{RouteKey}
use Rattle.reference_machine.specs.declared.rows.Queue.{Queue}
use Rattle.reference_machine.specs.Network.{Network, with_route, without_route, messages_in, with_direction, with_more, with_message, without_head}
use Rattle.reference_machine.specs.Advertising.{sent}
use Rattle.reference_machine.specs.Reports.{loc_rib, choice, reasons, adj_rib_in, adj_rib_out, queue, is_quiet, cost_and_hop}
use Rattle.reference_machine.specs.Tracing.{trace}

-- nothing is configured, received or on its way
abbrev pub nothing : Network
nothing = record { conf = unconfigured; received = []; queues = [] }

-- a reply, and the state after it
pub record Outcome : Type 0 where
  pub reply : Reply
  pub next : Network

abbrev pub refused : Refusal → Network → Outcome
refused r s = record { reply = Refused r; next = s }

-- the outcome, unless the event is refused
abbrev pub unless_refused : Option Refusal → Network → Outcome → Outcome
unless_refused (Some r) s outcome = refused r s
unless_refused None s outcome = outcome

-- each queue of s' gets what its router sends when s becomes s'
unfoldable pub with_sent : Network → Network → Network
with_sent s s' = record s' { queues = map (λ q. with_more q (sent s s' q.of.from q.of.to)) s'.queues }

-- EDITS

-- a new session has a queue each way
abbrev pub with_queues : Edit → List Queue → List Queue
with_queues (Join a b) qs =
    with_direction (record { from = a; to = b }) (with_direction (record { from = b; to = a }) qs)
with_queues _ qs = qs

-- the queue, without its messages where the session is down
abbrev pub emptied : Configuration → Queue → Queue
emptied c q = if is_up c q.of.from q.of.to then q else record { of = q.of; messages = [] }

abbrev pub is_kept : Configuration → (RouteKey × Attr) → Bool
is_kept c e = is_up c e.0.from e.0.to

-- the state with this configuration: nothing received, and nothing on its way, over a session that is down in it
-- (RFC 4271, 6 and 8)
unfoldable pub reconfigured : Configuration → List (RouteKey × Attr) → List Queue → Network
reconfigured c received queues = record {
  conf = c;
  received = filter (is_kept c) received;
  queues = map (emptied c) queues;
}

-- the state after the edit, before anything is sent
abbrev pub after_edit : Network → Edit → Network
after_edit s e = reconfigured (edited s.conf e) s.received (with_queues e s.queues)

unfoldable pub edit_step : Network → Edit → Outcome
edit_step s e = unless_refused (refusal_of s.conf e) s (record { reply = Done; next = with_sent s (after_edit s e) })

-- FEEDS

-- the path does not begin with a sequence whose first number is the feeder's AS (RFC 4271, 6.3)
abbrev pub has_foreign_first : Configuration → Addr → News → Bool
has_foreign_first c v (Update r) = not (same_number (neighbour r.path) (as_of c v))
has_foreign_first c v (Withdraw p) = false

-- the most AS numbers in a path that is fed (own)
abbrev pub most_fed_numbers : ℕ
most_fed_numbers = 255

-- the most communities that a fed route carries (own)
abbrev pub most_fed_communities : ℕ
most_fed_communities = 32

-- the path holds more AS numbers than one that is fed may
abbrev pub is_too_long : News → Bool
is_too_long (Update r) = nat_lt most_fed_numbers (number_count r.path)
is_too_long (Withdraw p) = false

-- the route carries more communities than one that is fed may
abbrev pub carries_too_many : News → Bool
carries_too_many (Update r) = nat_lt most_fed_communities (length r.comms)
carries_too_many (Withdraw p) = false

-- why the feed is refused: the first test that holds, in the order of their numbers
unfoldable pub feed_refusal : Configuration → Feed → Option Refusal
feed_refusal c f = first_of (
    (not (has_node c f.from && has_node c f.to), NoRouter)
    ∷ (not (is_virtual c f.from) || is_virtual c f.to, BadEnd)
    ∷ (not (has_session c f.from f.to), NoSession)
    ∷ (not (is_up c f.from f.to), SessionDown)
    ∷ (has_foreign_first c f.from f.news, FirstAs)
    ∷ (is_too_long f.news || carries_too_many f.news, Limit)
    ∷ [])

-- a route that is fed has its feeder as NEXT_HOP, and what the feed says
abbrev pub fed_attr : Addr → FedRoute → Attr
fed_attr v r = record (plain_attr v) { path = r.path; origin = r.origin; med = r.med; comms = r.comms }

-- the message that is fed
abbrev pub fed_message : Addr → News → Message
fed_message v (Update r) = AnUpdate r.prefix (fed_attr v r)
fed_message v (Withdraw p) = AWithdrawal p

-- the state with what is fed on its way
abbrev pub after_feed : Network → Feed → Network
after_feed s f = record s {
  queues = with_message (record { from = f.from; to = f.to })
      (fed_message f.from f.news) s.queues;
}

unfoldable pub feed_step : Network → Feed → Outcome
feed_step s f = unless_refused (feed_refusal s.conf f) s (record { reply = Done; next = after_feed s f })

-- DELIVERIES

-- an update replaces the route, a withdrawal removes it (RFC 4271, 9)
abbrev pub received_after : Direction → Message → List (RouteKey × Attr) → List (RouteKey × Attr)
received_after d (AnUpdate p attr) es = with_route (record { to = d.to; prefix = p; from = d.from }) attr es
received_after d (AWithdrawal p) es = without_route (record { to = d.to; prefix = p; from = d.from }) es

-- the state once the message at the head has been taken, before anything is sent
unfoldable pub taken : Network → Direction → Message → Network
taken s d m = record s { received = received_after d m s.received; queues = without_head d s.queues }

-- the message at the head is taken, if there is one
abbrev pub head_step : Network → Direction → Option (List Message) → Outcome
head_step s d None = refused QueueEmpty s
head_step s d (Some []) = refused QueueEmpty s
head_step s d (Some (m ∷ ms)) = record { reply = Took (prefix_of m) (kind_of m); next = with_sent s (taken s d m) }

-- why the delivery is refused before its queue is looked at: the first test that holds
unfoldable pub delivery_refusal : Configuration → Direction → Option Refusal
delivery_refusal c d = first_of (
    (not (has_node c d.from && has_node c d.to), NoRouter)
    ∷ (not (has_session c d.from d.to), NoSession)
    ∷ (not (is_up c d.from d.to), SessionDown)
    ∷ [])

unfoldable pub delivery_step : Network → Direction → Outcome
delivery_step s d = unless_refused (delivery_refusal s.conf d) s (head_step s d (messages_in s.queues d))

-- QUESTIONS

-- 2: a router or peer that the question names is not there
abbrev pub asks_nobody : Configuration → Ask → Bool
asks_nobody c (Routes r) = not (has_node c r)
asks_nobody c (Best r p) = not (has_node c r)
asks_nobody c (Why r p) = not (has_node c r)
asks_nobody c (In r u) = not (has_node c r && has_node c u)
asks_nobody c (Out r t) = not (has_node c r && has_node c t)
asks_nobody c (QueueOf a b) = not (has_node c a && has_node c b)
asks_nobody c Quiet = false
asks_nobody c (Cost r x) = not (has_node c r && has_node c x)
asks_nobody c (Trace r d) = not (has_node c r)

-- 5: a virtual peer is asked what only a router knows
abbrev pub asks_peer : Configuration → Ask → Bool
asks_peer c (Routes r) = is_virtual c r
asks_peer c (Best r p) = is_virtual c r
asks_peer c (Why r p) = is_virtual c r
asks_peer c (In r u) = false
asks_peer c (Out r t) = is_virtual c r
asks_peer c (QueueOf a b) = false
asks_peer c Quiet = false
asks_peer c (Cost r x) = is_virtual c r
asks_peer c (Trace r d) = is_virtual c r

-- 10: the two have no session
abbrev pub asks_unjoined : Configuration → Ask → Bool
asks_unjoined c (Routes r) = false
asks_unjoined c (Best r p) = false
asks_unjoined c (Why r p) = false
asks_unjoined c (In r u) = not (has_session c r u)
asks_unjoined c (Out r t) = not (has_session c r t)
asks_unjoined c (QueueOf a b) = not (has_session c a b)
asks_unjoined c Quiet = false
asks_unjoined c (Cost r x) = false
asks_unjoined c (Trace r d) = false

-- why the question is refused: the first test that holds
unfoldable pub ask_refusal : Configuration → Ask → Option Refusal
ask_refusal c q = first_of (
    (asks_nobody c q, NoRouter)
    ∷ (asks_peer c q, BadEnd)
    ∷ (asks_unjoined c q, NoSession)
    ∷ [])

abbrev pub report_of : Network → Ask → Report
report_of s (Routes r) = TheRoutes (loc_rib s r)
report_of s (Best r p) = TheBest (choice s r p)
report_of s (Why r p) = TheReasons (reasons s r p)
report_of s (In r u) = Rib (adj_rib_in s r u)
report_of s (Out r t) = Rib (adj_rib_out s r t)
report_of s (QueueOf a b) = TheQueue (queue s (record { from = a; to = b }))
report_of s Quiet = IsQuiet (is_quiet s)
report_of s (Cost r x) = TheCost (cost_and_hop s.conf r x)
report_of s (Trace r d) = let t = trace s r d in TheTrace t.hops t.ending

unfoldable pub question_step : Network → Ask → Outcome
question_step s q = unless_refused (ask_refusal s.conf q) s (record { reply = AReport (report_of s q); next = s })

-- the router whose choices, adverts, costs or forwarding the question is about
abbrev pub decider_asked : Ask → Option Addr
decider_asked (Routes r) = Some r
decider_asked (Best r p) = Some r
decider_asked (Why r p) = Some r
decider_asked (In r u) = None
decider_asked (Out r t) = Some r
decider_asked (QueueOf a b) = None
decider_asked Quiet = None
decider_asked (Cost r x) = Some r
decider_asked (Trace r d) = Some r

-- STEPS AND RUNS

-- what the machine answers to an event, and its state after it
abbrev pub step : Network → Event → Outcome
step s (AnEdit e) = edit_step s e
step s (AFeed f) = feed_step s f
step s (Deliver a b) = delivery_step s (record { from = a; to = b })
step s (AnAsk q) = question_step s q

abbrev pub is_refusal : Reply → Bool
is_refusal Done = false
is_refusal (Took p k) = false
is_refusal (AReport r) = false
is_refusal (Refused r) = true

-- such a question about a virtual peer is refused: no report depends on what the definitions of reports say of one
abbrev pub PeersTellNothing : Type 0
PeersTellNothing = (s : Network) (q : Ask) (r : Addr) → decider_asked q ≡ Some r → is_virtual s.conf r ≡ true →
    is_refusal (step s (AnAsk q)).reply ≡ true

-- the outcome was tried: it came about, or, where it is no refusal, nothing did for want of memory
abbrev pub Tries : {E : Type 0} → Outcome → Network → Result Reply E → Network → Type 0
Tries o s (Ok r) s' = (r ≡ o.reply) × (s' ≡ o.next)
Tries o s (Err e) s' = (s' ≡ s) × (is_refusal o.reply ≡ false)

-- the question whether all queues are empty, which takes no memory
abbrev pub asks_quiet : Event → Bool
asks_quiet (AnAsk Quiet) = true
asks_quiet _ = false

-- the machine's own step; or, where that is no refusal, no step at all for want of memory
abbrev pub IsStep : Network → Event → Reply → Network → Type 0
IsStep s e r s' = ((r ≡ (step s e).reply) × (s' ≡ (step s e).next))
    ⊎ ((r ≡ Refused Memory) × (s' ≡ s) × (is_refusal (step s e).reply ≡ false) × (asks_quiet e ≡ false))

-- the replies and the state after the events are those of the machine, event by event
abbrev pub IsRun : Network → List Event → List Reply → Network → Type 0
IsRun s [] [] s' = s' ≡ s
IsRun s (e ∷ es) (r ∷ rs) s' = (mid : Network) × IsStep s e r mid × IsRun mid es rs s'
IsRun s [] (r ∷ rs) s' = ⊥
IsRun s (e ∷ es) [] s' = ⊥
