-- What holds of every state that a run leads to, and how what is sent brings it about.
use Rattle.std.proofs.Common.{◌≡◌, Bool, true, false, not, ◌&&◌, List, [], ◌++◌, Option, Some, None, option_map, is_some, unwrap_or, if◌then◌else◌, refl, sym, ap, ◌∙◌}
use Rattle.std.specs.List.Sorted.{IsStrictlySortedBy}
use Rattle.std.proofs.lemmas.Bool.{true≢false}
use Rattle.std.proofs.lemmas.List.Sums.{fold-append}
use Rattle.net_prefix.specs.declared.addr.Addr.{Addr}
use Rattle.net_prefix.specs.Prefix.{Prefix}
use Rattle.session_queue.specs.declared.message.Message.{Message}
use Rattle.session_queue.specs.declared.direction.Direction.{Direction}
use Rattle.net_conf.specs.Configuration.{Configuration, has_node, is_virtual, has_session}
use Rattle.net_conf.specs.Costs.{is_up}
use Rattle.reference_machine.specs.Network.{Network, messages_in}
use Rattle.reference_machine.specs.Decision.{route_from, best}
use Rattle.reference_machine.specs.Advertising.{advertised, sends, changes, sent}
use Rattle.reference_machine.specs.Reports.{queue}
use Rattle.reference_machine.specs.Machine.{nothing, with_sent}
use Rattle.session_law.specs.SessionLaw.{after_message, after_messages, applied}
use Rattle.session_law.proofs.Lists.{some_mapped}
use Rattle.session_law.proofs.Queues.{messages_sent}
use Rattle.session_law.proofs.Routes.{AreOrdered}
use Rattle.session_law.proofs.Changes.{changes_lead}
use Rattle.session_law.proofs.Configs.{session_if_up}

abbrev pub direction : Addr → Addr → Direction
direction a b = record { from = a; to = b }

-- the messages on their way, none where there is no queue
abbrev pub waiting : Network → Addr → Addr → List Message
waiting s a b = unwrap_or (messages_in s.queues (direction a b)) []

-- what holds whether or not what is due has been sent
pub record IsTidy (s : Network) : Type 0 where
  -- over a session that is down, nothing is received, and nothing is on its way
  pub no_route : (a b : Addr) → is_up s.conf a b ≡ false → (p : Prefix) → route_from s.received b p a ≡ None
  pub no_message : (a b : Addr) → is_up s.conf a b ≡ false → waiting s a b ≡ []
  -- each session has a queue each way
  pub there : (a b : Addr) → has_session s.conf a b ≡ true → is_some (messages_in s.queues (direction a b)) ≡ true
  -- what is received is in the order of its keys
  pub ordered : AreOrdered s.received
  -- both ends of a session are there
  pub placed : (a b : Addr) → has_session s.conf a b ≡ true → has_node s.conf a ≡ true

-- what each peer has received, with what is on its way put over it, is what the router advertises to it now
pub record IsTold (s : Network) : Type 0 where
  pub law : (r t : Addr) (p : Prefix) → sends s.conf r t ≡ true → applied s r t p ≡ advertised s r t p
  pub tidy : IsTidy s

-- s is about to become s': so far it is in s' what the router advertised in s
pub record IsTurned (s s' : Network) : Type 0 where
  pub before : (r t : Addr) (p : Prefix) → sends s'.conf r t ≡ true → applied s' r t p ≡ advertised s r t p
  pub tidy : IsTidy s'

-- SENDING

three_parts : (x y z : Bool) → (x && y && z) ≡ true → (x ≡ true) × (y ≡ true) × (z ≡ true)
three_parts true true true h = (refl, refl, refl)
three_parts true true false h = absurd (true≢false (sym h))
three_parts true false z h = absurd (true≢false (sym h))
three_parts false y z h = absurd (true≢false (sym h))

last_false : (x y z : Bool) → z ≡ false → (x && y && z) ≡ false
last_false true true z h = h
last_false true false z h = refl
last_false false y z h = refl

-- who sends is no virtual peer, and its session is up
pub sends_parts : (c : Configuration) (r t : Addr) → sends c r t ≡ true → (has_node c r ≡ true)
    × (not (is_virtual c r) ≡ true) × (is_up c r t ≡ true)
sends_parts c r t h = three_parts (has_node c r) (not (is_virtual c r)) (is_up c r t) h

pub sends_from : (c : Configuration) (r t : Addr) → has_node c r ≡ true → not (is_virtual c r) ≡ true →
    is_up c r t ≡ true → sends c r t ≡ true
sends_from c r t here router up = λ i. here i && router i && up i

-- nobody sends over a session that is down
silent : (c : Configuration) (r t : Addr) → is_up c r t ≡ false → sends c r t ≡ false
silent c r t down = last_false (has_node c r) (not (is_virtual c r)) (is_up c r t) down

sent_due : (s s' : Network) (r t : Addr) → sends s'.conf r t ≡ true → sent s s' r t ≡ changes s s' r t
unfolding sent
sent_due s s' r t is = ap (λ b. if b then changes s s' r t else []) is

sent_none : (s s' : Network) (r t : Addr) → is_up s'.conf r t ≡ false → sent s s' r t ≡ []
unfolding sent
sent_none s s' r t down = ap (λ b. if b then changes s s' r t else []) (silent s'.conf r t down)

-- the queue of a session that is up
pub queue_up : (s : Network) (a b : Addr) → is_up s.conf a b ≡ true → queue s (direction a b) ≡ waiting s a b
unfolding queue
queue_up s a b up = ap (λ x. if x then waiting s a b else []) up

-- what is received, with what is on its way put over it, where the session is up
pub applied_up : (s : Network) (r t : Addr) (p : Prefix) → is_up s.conf r t ≡ true →
    applied s r t p ≡ after_messages p (route_from s.received t p r) (waiting s r t)
unfolding applied
applied_up s r t p up = ap (after_messages p (route_from s.received t p r)) (queue_up s r t up)

more_waiting : (o : Option (List Message)) (ms : List Message) → is_some o ≡ true →
    unwrap_or (option_map (λ xs. xs ++ ms) o) [] ≡ unwrap_or o [] ++ ms
more_waiting None ms h = absurd (true≢false (sym h))
more_waiting (Some xs) ms h = refl

none_waiting : (o : Option (List Message)) (ms : List Message) → ms ≡ [] → unwrap_or o [] ≡ [] →
    unwrap_or (option_map (λ xs. xs ++ ms) o) [] ≡ []
none_waiting None ms none h = refl
none_waiting (Some xs) ms none h = (λ i. h i ++ none i)

module _ (s s' : Network) (turned : IsTurned s s') where
  waiting_sent : (r t : Addr) → is_up s'.conf r t ≡ true →
      waiting (with_sent s s') r t ≡ waiting s' r t ++ sent s s' r t
  unfolding with_sent
  waiting_sent r t up =
      ap (λ o. unwrap_or o []) (messages_sent s s' (direction r t) s'.queues)
      ∙ more_waiting (messages_in s'.queues (direction r t)) (sent s s' r t)
      (turned.tidy.there r t (session_if_up s'.conf r t up))

  conf_sent : (with_sent s s').conf ≡ s'.conf
  unfolding with_sent
  conf_sent = refl

  received_sent : (with_sent s s').received ≡ s'.received
  unfolding with_sent
  received_sent = refl

  applied_sent : (r t : Addr) (p : Prefix) → is_up s'.conf r t ≡ true →
      applied (with_sent s s') r t p ≡ after_messages p (route_from s'.received t p r) (waiting (with_sent s s') r t)
  unfolding with_sent
  applied_sent r t p up = applied_up (with_sent s s') r t p up

  advertised_sent : (r t : Addr) (p : Prefix) → advertised (with_sent s s') r t p ≡ advertised s' r t p
  unfolding with_sent advertised best
  advertised_sent r t p = refl

  -- what is sent brings it about
  law_sent : (r t : Addr) (p : Prefix) → sends s'.conf r t ≡ true →
      applied (with_sent s s') r t p ≡ advertised (with_sent s s') r t p
  law_sent r t p is =
      let up = (sends_parts s'.conf r t is).2 in
      let route = route_from s'.received t p r in
      applied_sent r t p up
      ∙ ap (after_messages p route) (waiting_sent r t up ∙ ap (λ ms. waiting s' r t ++ ms) (sent_due s s' r t is))
      ∙ fold-append (after_message p) route (waiting s' r t) (changes s s' r t)
      ∙ ap (λ held. after_messages p held (changes s s' r t)) (sym (applied_up s' r t p up) ∙ turned.before r t p is)
      ∙ changes_lead s s' r t p
      ∙ sym (advertised_sent r t p)

  tidy_sent : IsTidy (with_sent s s')
  unfolding with_sent
  tidy_sent = record {
    no_route = turned.tidy.no_route;
    no_message = λ a b down. ap (λ o. unwrap_or o []) (messages_sent s s' (direction a b) s'.queues)
        ∙ none_waiting (messages_in s'.queues (direction a b)) (sent s s' a b) (sent_none s s' a b down)
        (turned.tidy.no_message a b down);
    there = λ a b is. ap is_some (messages_sent s s' (direction a b) s'.queues)
        ∙ some_mapped (λ ms. ms ++ sent s s' a b) (messages_in s'.queues (direction a b)) ∙ turned.tidy.there a b is;
    ordered = turned.tidy.ordered;
    placed = turned.tidy.placed;
  }

  -- and so it holds once what is due is sent
  pub told_sent : IsTold (with_sent s s')
  unfolding with_sent
  told_sent = record { law = law_sent; tidy = tidy_sent }

-- AT FIRST

false_true : {A : Type 0} → false ≡ true → A
false_true h = absurd (true≢false (sym h))

pub told_nothing : IsTold nothing
unfolding IsStrictlySortedBy
told_nothing = record {
  law = λ r t p is. false_true is;
  tidy = record {
    no_route = λ a b down p. refl;
    no_message = λ a b down. refl;
    there = λ a b is. false_true is;
    ordered = tt;
    placed = λ a b is. false_true is;
  };
}
