-- Deliveries and feeds keep what each peer has received, with what is on its way put over it.
use Rattle.std.proofs.Common.{◌≡◌, Bool, true, false, cond, List, [], ◌∷◌, ◌++◌, Option, Some, None, option_map, is_some, unwrap_or, refl, sym, ap, ◌∙◌}
use Rattle.std.proofs.lemmas.Bool.{true≢false, false_from_ne_true, not-true}
use Rattle.net_prefix.specs.declared.addr.Addr.{Addr}
use Rattle.net_prefix.specs.Prefix.{Prefix}
use Rattle.session_queue.specs.declared.message.Message.{Message}
use Rattle.session_queue.specs.declared.direction.Direction.{Direction}
use Rattle.net_conf.specs.Configuration.{Configuration, is_virtual}
use Rattle.net_conf.specs.Costs.{is_up}
use Rattle.reference_machine.specs.Network.{Network, messages_in, rest_of, with_message}
use Rattle.reference_machine.specs.Decision.{route_from, best}
use Rattle.reference_machine.specs.Advertising.{advertised, sends}
use Rattle.reference_machine.specs.Machine.{taken}
use Rattle.session_law.specs.SessionLaw.{after_message, after_messages, applied}
use Rattle.session_law.proofs.Lists.{some_mapped}
use Rattle.session_law.proofs.Keys.{same_ends, same_ends_true}
use Rattle.session_law.proofs.Queues.{messages_without_head, messages_with_message}
use Rattle.session_law.proofs.Routes.{route_after, ordered_after}
use Rattle.session_law.proofs.Told.{direction, waiting, IsTidy, IsTold, IsTurned, sends_parts, applied_up}

-- a direction that is down is none that is up
other_direction : (c : Configuration) (d : Direction) (a b : Addr) → is_up c d.from d.to ≡ true → is_up c a b ≡ false →
    same_ends (direction a b) d ≡ false
other_direction c d a b up down =
    false_from_ne_true (same_ends (direction a b) d)
    (λ h. true≢false (sym up ∙ ap (λ e. is_up c e.from e.to) (sym (same_ends_true (direction a b) d h)) ∙ down))

by_mapped : (f : List Message → List Message) (b : Bool) (o : Option (List Message)) → b ≡ false →
    unwrap_or (option_map (λ ms. cond b (f ms) ms) o) [] ≡ unwrap_or o []
by_mapped f b None is = refl
by_mapped f b (Some ms) is = ap (λ x. cond x (f ms) ms) is

-- DELIVERIES

module _ (s : Network) (d : Direction) (m : Message) (ms : List Message) (told : IsTold s)
    (up : is_up s.conf d.from d.to ≡ true) (head : messages_in s.queues d ≡ Some (m ∷ ms)) where
  route_taken : (r t : Addr) (p : Prefix) → route_from (taken s d m).received t p r ≡ cond (same_ends (direction r t) d)
      (after_message p (route_from s.received t p r) m) (route_from s.received t p r)
  unfolding taken
  route_taken r t p = route_after d m s.received told.tidy.ordered r t p

  waiting_taken : (r t : Addr) →
      waiting (taken s d m) r t
      ≡ unwrap_or (option_map (λ xs. cond (same_ends (direction r t) d) (rest_of xs) xs)
      (messages_in s.queues (direction r t))) []
  unfolding taken
  waiting_taken r t = ap (λ o. unwrap_or o []) (messages_without_head d (direction r t) s.queues)

  -- what the message says has moved from the queue to what was received
  same_applied : (b : Bool) (r t : Addr) (p : Prefix) → same_ends (direction r t) d ≡ b →
      after_messages p (cond b (after_message p (route_from s.received t p r) m) (route_from s.received t p r))
      (unwrap_or (option_map (λ xs. cond b (rest_of xs) xs) (messages_in s.queues (direction r t))) [])
      ≡ after_messages p (route_from s.received t p r) (waiting s r t)
  same_applied true r t p is =
      let here : messages_in s.queues (direction r t) ≡ Some (m ∷ ms) =
      ap (messages_in s.queues) (same_ends_true (direction r t) d is) ∙ head in
      ap (λ o. after_messages p (after_message p (route_from s.received t p r) m) (unwrap_or (option_map rest_of o) []))
      here
      ∙ ap (λ o. after_messages p (route_from s.received t p r) (unwrap_or o [])) (sym here)
  same_applied false r t p is = ap (after_messages p (route_from s.received t p r))
      (by_mapped rest_of false (messages_in s.queues (direction r t)) refl)

  applied_taken : (r t : Addr) (p : Prefix) → is_up s.conf r t ≡ true → applied (taken s d m) r t p ≡ applied s r t p
  unfolding taken
  applied_taken r t p is =
      applied_up (taken s d m) r t p is
      ∙ (λ i. after_messages p (route_taken r t p i) (waiting_taken r t i))
      ∙ same_applied (same_ends (direction r t) d) r t p refl
      ∙ sym (applied_up s r t p is)

  before_taken : (r t : Addr) (p : Prefix) → sends (taken s d m).conf r t ≡ true →
      applied (taken s d m) r t p ≡ advertised s r t p
  unfolding taken
  before_taken r t p is = applied_taken r t p (sends_parts s.conf r t is).2 ∙ told.law r t p is

  tidy_taken : IsTidy (taken s d m)
  unfolding taken
  tidy_taken = record {
    no_route = λ a b down p. route_taken a b p
        ∙ ap (λ x. cond x (after_message p (route_from s.received b p a) m) (route_from s.received b p a))
        (other_direction s.conf d a b up down) ∙ told.tidy.no_route a b down p;
    no_message = λ a b down. waiting_taken a b
        ∙ by_mapped rest_of (same_ends (direction a b) d) (messages_in s.queues (direction a b))
        (other_direction s.conf d a b up down) ∙ told.tidy.no_message a b down;
    there = λ a b is. ap is_some (messages_without_head d (direction a b) s.queues)
        ∙ some_mapped (λ xs. cond (same_ends (direction a b) d) (rest_of xs) xs) (messages_in s.queues (direction a b))
        ∙ told.tidy.there a b is;
    ordered = ordered_after d m s.received told.tidy.ordered;
    placed = told.tidy.placed;
  }

  pub turned_taken : IsTurned s (taken s d m)
  turned_taken = record { before = before_taken; tidy = tidy_taken }

-- FEEDS

-- the state with a message more in one direction
abbrev pub fed : Network → Direction → Message → Network
fed s d m = record s { queues = with_message d m s.queues }

module _ (s : Network) (d : Direction) (m : Message) (told : IsTold s) (up : is_up s.conf d.from d.to ≡ true)
    (virtual : is_virtual s.conf d.from ≡ true) where
  waiting_fed : (r t : Addr) → same_ends (direction r t) d ≡ false → waiting (fed s d m) r t ≡ waiting s r t
  waiting_fed r t other =
      ap (λ o. unwrap_or o []) (messages_with_message d (direction r t) m s.queues)
      ∙ by_mapped (λ xs. xs ++ m ∷ []) (same_ends (direction r t) d) (messages_in s.queues (direction r t)) other

  -- no router sends in the direction of a virtual peer
  not_fed : (r t : Addr) → sends s.conf r t ≡ true → same_ends (direction r t) d ≡ false
  not_fed r t is =
      false_from_ne_true (same_ends (direction r t) d)
      (λ h. true≢false (sym virtual ∙ ap (λ e. is_virtual s.conf e.from) (sym (same_ends_true (direction r t) d h))
      ∙ not-true (is_virtual s.conf r) (sends_parts s.conf r t is).1))

  advertised_fed : (r t : Addr) (p : Prefix) → advertised s r t p ≡ advertised (fed s d m) r t p
  unfolding advertised best
  advertised_fed r t p = refl

  law_fed : (r t : Addr) (p : Prefix) → sends s.conf r t ≡ true →
      applied (fed s d m) r t p ≡ advertised (fed s d m) r t p
  law_fed r t p is =
      let is_up_now = (sends_parts s.conf r t is).2 in
      applied_up (fed s d m) r t p is_up_now
      ∙ ap (after_messages p (route_from s.received t p r)) (waiting_fed r t (not_fed r t is))
      ∙ sym (applied_up s r t p is_up_now)
      ∙ told.law r t p is
      ∙ advertised_fed r t p

  pub told_fed : IsTold (fed s d m)
  told_fed = record {
    law = law_fed;
    tidy = record {
      no_route = told.tidy.no_route;
      no_message = λ a b down. waiting_fed a b (other_direction s.conf d a b up down) ∙ told.tidy.no_message a b down;
      there = λ a b is. ap is_some (messages_with_message d (direction a b) m s.queues)
          ∙ some_mapped (λ xs. cond (same_ends (direction a b) d) (xs ++ m ∷ []) xs)
          (messages_in s.queues (direction a b)) ∙ told.tidy.there a b is;
      ordered = told.tidy.ordered;
      placed = told.tidy.placed;
    };
  }
