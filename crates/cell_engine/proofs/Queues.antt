-- The queues of the network that an engine keeps, once those of the engine have changed.
use Rattle.std.proofs.Common.{◌≡◌, Bool, true, false, cond, ◌&&◌, ◌||◌, ◌↔◌, List, [], ◌∷◌, ◌++◌, map, drop, find, Option, Some, None, option_map, if◌then◌else◌, refl, sym, ap, ◌∙◌}
use Rattle.std.specs.List.{list_any, list_all}
use Rattle.std.specs.Cmp.{nat_eq_equiv}
use Rattle.std.proofs.lemmas.Bool.{true≢false, and_parts, and_from}
use Rattle.net_prefix.specs.declared.addr.Addr.{Addr}
use Rattle.net_prefix.specs.Address.{same_addr}
use Rattle.session_queue.specs.declared.message.Message.{Message}
use Rattle.session_queue.specs.declared.direction.Direction.{Direction}
use Rattle.session_queue.specs.Waiting.{Queues, queue_at, same_direction, KeepsOthers, IsQuiet}
use Rattle.net_conf.specs.Configuration.{has_session}
use Rattle.reference_machine.specs.declared.rows.Queue.{Queue}
use Rattle.reference_machine.specs.Network.{Network, is_of, messages_in, with_more, with_message, rest_of, without_head}
use Rattle.reference_machine.specs.Advertising.{sent}
use Rattle.reference_machine.specs.Reports.{is_empty, is_quiet}
use Rattle.reference_machine.specs.Machine.{with_sent}
use Rattle.cell_engine.specs.State.{State, IsConsistent, network, queue_of, is_direction}
use Rattle.cell_engine.proofs.Offers.{same_addr_true, same_addr_itself}

-- DIRECTION BY DIRECTION

-- queues that show the same
queues_same : (q r : Queues) → ((f t : Addr) → queue_at r f t ≡ queue_at q f t) → (ds : List Direction) →
    map (queue_of r) ds ≡ map (queue_of q) ds
queues_same q r same [] = refl
queues_same q r same (d ∷ ds) = λ i. record { of = d; messages = same d.from d.to i } ∷ queues_same q r same ds i

-- messages come to the ends
queues_more : (q r : Queues) (more : Addr → Addr → List Message) →
    ((f t : Addr) → queue_at r f t ≡ queue_at q f t ++ more f t) → (ds : List Direction) →
    map (queue_of r) ds ≡ map (λ x. with_more x (more x.of.from x.of.to)) (map (queue_of q) ds)
queues_more q r more is [] = refl
queues_more q r more is (d ∷ ds) = λ i. record { of = d; messages = is d.from d.to i } ∷ queues_more q r more is ds i

-- the queues of one direction change
module _ (q r : Queues) (d : Direction) (turn : List Message →
    List Message) (is : queue_at r d.from d.to ≡ turn (queue_at q d.from d.to))
    (others : KeepsOthers d.from d.to q r) where
  one_by : (x : Direction) (here : Bool) → same_direction d.from d.to x.from x.to ≡ here →
      queue_of r x ≡ (if here then record { of = x; messages = turn (queue_at q x.from x.to) } else queue_of q x)
  one_by x true here =
      let parts = and_parts (same_addr x.from d.from) (same_addr x.to d.to) here in
      let from = same_addr_true x.from d.from parts.0 in
      let to = same_addr_true x.to d.to parts.1 in
      let now : queue_at r x.from x.to ≡ turn (queue_at q x.from x.to) = (λ i. queue_at r (from i) (to i)) ∙ is
      ∙ sym (λ i. turn (queue_at q (from i) (to i))) in
      λ i. record { of = x; messages = now i }
  one_by x false off = let stays = others.queue x.from x.to off in λ i. record { of = x; messages = stays i }

  queues_turned : (ds : List Direction) →
      map (queue_of r) ds ≡ map (λ y. if is_of d y then record y { messages = turn y.messages } else y)
      (map (queue_of q) ds)
  queues_turned [] = refl
  queues_turned (x ∷ ds) = λ i. one_by x (same_direction d.from d.to x.from x.to) refl i ∷ queues_turned ds i

-- THE NETWORK

-- where the queues show the same, the network is the same
pub network_same : (e : State) (r : Queues) → ((f t : Addr) → queue_at r f t ≡ queue_at e.queues f t) →
    network (record e { queues = r }) ≡ network e
unfolding network
network_same e r same = ap (λ qs. record { conf = e.conf; received = (network e).received; queues = qs })
    (queues_same e.queues r same e.directions)

-- where messages come to the ends of the queues, they do so in the network
pub network_more : (e : State) (r : Queues) (more : Addr → Addr → List Message) →
    ((f t : Addr) → queue_at r f t ≡ queue_at e.queues f t ++ more f t) →
    network (record e { queues = r })
    ≡ record (network e) { queues = map (λ x. with_more x (more x.of.from x.of.to)) (network e).queues }
unfolding network
network_more e r more is = ap (λ qs. record { conf = e.conf; received = (network e).received; queues = qs })
    (queues_more e.queues r more is e.directions)

-- where what is due comes to the ends of the queues, it is sent
pub network_sent : (s : Network) (e : State) (r : Queues) →
    ((f t : Addr) → queue_at r f t ≡ queue_at e.queues f t ++ sent s (network e) f t) →
    network (record e { queues = r }) ≡ with_sent s (network e)
unfolding with_sent
network_sent s e r is = network_more e r (sent s (network e)) is

rest_is : (ms : List Message) → drop 1 ms ≡ rest_of ms
rest_is [] = refl
rest_is (m ∷ ms) = refl

-- where the head of one direction is taken, it is taken in the network
pub network_popped : (e : State) (r : Queues) (d : Direction) →
    queue_at r d.from d.to ≡ drop 1 (queue_at e.queues d.from d.to) → KeepsOthers d.from d.to e.queues r →
    network (record e { queues = r }) ≡ record (network e) { queues = without_head d (network e).queues }
unfolding network
network_popped e r d is others =
    ap (λ qs. record { conf = e.conf; received = (network e).received; queues = qs })
    (queues_turned e.queues r d rest_of (is ∙ rest_is (queue_at e.queues d.from d.to)) others e.directions)

-- where one message comes to the end of one direction, it does so in the network
pub network_pushed : (e : State) (r : Queues) (d : Direction) (m : Message) →
    queue_at r d.from d.to ≡ queue_at e.queues d.from d.to ++ m ∷ [] → KeepsOthers d.from d.to e.queues r →
    network (record e { queues = r }) ≡ record (network e) { queues = with_message d m (network e).queues }
unfolding network
network_pushed e r d m is others =
    ap (λ qs. record { conf = e.conf; received = (network e).received; queues = qs })
    (queues_turned e.queues r d (λ ms. ms ++ m ∷ []) is others e.directions)

-- WHAT IS ON ITS WAY

direction_by : (q : Queues) (d x : Direction) (a b : Bool) → same_addr d.from x.from ≡ a → same_addr d.to x.to ≡ b →
    (o : Option Queue) (any : Bool) → option_map (λ q. q.messages) o ≡ cond any (Some (queue_at q d.from d.to)) None →
    option_map (λ q. q.messages) (cond (a && b) (Some (queue_of q x)) o)
    ≡ cond ((a && b) || any) (Some (queue_at q d.from d.to)) None
direction_by q d x true true f t o any rest =
    λ i. Some (queue_at q (sym (same_addr_true d.from x.from f) i) (sym (same_addr_true d.to x.to t) i))
direction_by q d x true false f t o any rest = rest
direction_by q d x false b f t o any rest = rest

messages_among : (q : Queues) (d : Direction) (ds : List Direction) →
    messages_in (map (queue_of q) ds) d ≡ cond (list_any (is_direction d) ds) (Some (queue_at q d.from d.to)) None
messages_among q d [] = refl
messages_among q d (x ∷ ds) =
    (λ i. option_map (λ q. q.messages)
    (cond (nat_eq_equiv.symm x.from.0 d.from.0 i && nat_eq_equiv.symm x.to.0 d.to.0 i) (Some (queue_of q x))
    (find (is_of d) (map (queue_of q) ds))))
    ∙ direction_by q d x (same_addr d.from x.from) (same_addr d.to x.to) refl refl
    (find (is_of d) (map (queue_of q) ds)) (list_any (is_direction d) ds) (messages_among q d ds)

-- each direction of a session has the messages of its queue, and no other has any
pub messages_of_network : (e : State) → IsConsistent e → (d : Direction) →
    messages_in (network e).queues d ≡ (if has_session e.conf d.from d.to then Some (queue_at e.queues d.from d.to)
    else None)
unfolding network
messages_of_network e sound d = messages_among e.queues d e.directions
    ∙ ap (λ b. cond b (Some (queue_at e.queues d.from d.to)) None) (sound.sessions d)

pub messages_on_session : (e : State) → IsConsistent e → (d : Direction) → has_session e.conf d.from d.to ≡ true →
    messages_in (network e).queues d ≡ Some (queue_at e.queues d.from d.to)
messages_on_session e sound d is = messages_of_network e sound d
    ∙ ap (λ b. if b then Some (queue_at e.queues d.from d.to) else None) is

-- QUIET

empty_is : (ms : List Message) → is_empty ms ≡ true → ms ≡ []
empty_is [] h = refl
empty_is (m ∷ ms) h = absurd (true≢false (sym h))

direction_true : (d x : Direction) → is_direction d x ≡ true → d ≡ x
direction_true d x h =
    let parts = and_parts (same_addr d.from x.from) (same_addr d.to x.to) h in
    let from = same_addr_true d.from x.from parts.0 in
    let to = same_addr_true d.to x.to parts.1 in
    λ i. record { from = from i; to = to i }

module _ (q : Queues) where
  -- no message is on its way in any of the directions
  abbrev AreQuiet : List Direction → Type 0
  AreQuiet ds = (d : Direction) → list_any (is_direction d) ds ≡ true → queue_at q d.from d.to ≡ []

  abbrev all_empty : List Direction → Bool
  all_empty ds = list_all (λ x. is_empty x.messages) (map (queue_of q) ds)

  quiet_by : (d x : Direction) (ds : List Direction) (b : Bool) → is_direction d x ≡ b → queue_at q x.from x.to ≡ [] →
      (list_any (is_direction d) ds ≡ true → queue_at q d.from d.to ≡ []) → (b || list_any (is_direction d) ds) ≡ true →
      queue_at q d.from d.to ≡ []
  quiet_by d x ds true is here rest h = ap (λ y. queue_at q y.from y.to) (direction_true d x is) ∙ here
  quiet_by d x ds false is here rest h = rest h

  quiet_from : (ds : List Direction) → all_empty ds ≡ true → AreQuiet ds
  quiet_from [] h d is = absurd (true≢false (sym is))
  quiet_from (x ∷ ds) h d is =
      let parts = and_parts (is_empty (queue_at q x.from x.to)) (all_empty ds) h in
      quiet_by d x ds (is_direction d x) refl (empty_is (queue_at q x.from x.to) parts.0) (quiet_from ds parts.1 d) is

  or_true : (b c : Bool) → c ≡ true → (b || c) ≡ true
  or_true true c h = refl
  or_true false c h = h

  direction_itself : (d : Direction) → is_direction d d ≡ true
  direction_itself d = and_from (same_addr d.from d.from) (same_addr d.to d.to) (same_addr_itself d.from)
      (same_addr_itself d.to)

  quiet_to : (ds : List Direction) → AreQuiet ds → all_empty ds ≡ true
  quiet_to [] quiet = refl
  quiet_to (x ∷ ds) quiet =
      and_from (is_empty (queue_at q x.from x.to)) (all_empty ds)
      (ap is_empty (quiet x (ap (λ b. b || list_any (is_direction x) ds) (direction_itself x))))
      (quiet_to ds (λ d is. quiet d (or_true (is_direction d x) (list_any (is_direction d) ds) is)))

-- the network is quiet just where no message is on its way in a direction of a session
pub quiet_sessions : (e : State) → IsConsistent e →
    (is_quiet (network e) ≡ true) ↔ ((d : Direction) → has_session e.conf d.from d.to ≡ true →
    queue_at e.queues d.from d.to ≡ [])
unfolding is_quiet network
quiet_sessions e sound = (
  (λ h d is. quiet_from e.queues e.directions h d (sound.sessions d ∙ is)),
  (λ quiet. quiet_to e.queues e.directions (λ d is. quiet d (sym (sound.sessions d) ∙ is))),
)

-- and so where none is in any direction, and the other way round where none is beside the sessions
pub quiet_network : (e : State) → IsConsistent e → IsQuiet e.queues → is_quiet (network e) ≡ true
quiet_network e sound quiet = (quiet_sessions e sound).1 (λ d is. quiet d.from d.to)

pub quiet_queues : (e : State) → IsConsistent e → is_quiet (network e) ≡ true → IsQuiet e.queues
quiet_queues e sound h f t = by (has_session e.conf f t) refl where
  by : (b : Bool) → has_session e.conf f t ≡ b → queue_at e.queues f t ≡ []
  by true is = (quiet_sessions e sound).0 h (record { from = f; to = t }) is
  by false is = sound.silent f t is
