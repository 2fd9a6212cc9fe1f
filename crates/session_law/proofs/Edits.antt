-- An edit leaves each peer with what it had received, with what is on its way put over it, or with nothing over a
-- session that comes up.
use Rattle.std.proofs.Common.{◌≡◌, ◌⊎◌, inl, inr, Bool, true, false, not, ◌&&◌, cond, List, [], Option, Some, None, option_map, is_some, unwrap_or, refl, sym, ap, ◌∙◌}
use Rattle.std.proofs.lemmas.Bool.{true≢false, false_from_ne_true}
use Rattle.net_prefix.specs.declared.addr.Addr.{Addr}
use Rattle.net_prefix.specs.Prefix.{Prefix}
use Rattle.session_queue.specs.declared.message.Message.{Message}
use Rattle.session_queue.specs.declared.direction.Direction.{Direction}
use Rattle.net_conf.specs.Configuration.{Configuration, has_node, is_virtual, is_kind_virtual, has_session}
use Rattle.net_conf.specs.Costs.{is_up}
use Rattle.net_conf.specs.Edits.{edited, lacks_node}
use Rattle.net_conf.specs.declared.edit.Edit.{Edit}
use Rattle.net_conf.specs.declared.edit.Edit.TheVariants.{Join}
use Rattle.reference_machine.specs.declared.rows.Queue.{Queue}
use Rattle.reference_machine.specs.Network.{Network, messages_in, with_direction}
use Rattle.reference_machine.specs.Decision.{route_from}
use Rattle.reference_machine.specs.Advertising.{advertised, sends}
use Rattle.reference_machine.specs.Machine.{with_queues, reconfigured, after_edit}
use Rattle.session_law.specs.SessionLaw.{after_messages, applied}
use Rattle.session_law.proofs.Lists.{some_mapped}
use Rattle.session_law.proofs.Keys.{same_ends, same_ends_true, same_ends_itself}
use Rattle.session_law.proofs.Queues.{messages_emptied, messages_other, messages_new}
use Rattle.session_law.proofs.Routes.{route_kept, ordered_kept}
use Rattle.session_law.proofs.Changes.{advertised_down}
use Rattle.session_law.proofs.Configs.{Passes, ArePair, Joins, node_kept, session_either, session_if_up, session_old_or_new}
use Rattle.session_law.proofs.Told.{direction, waiting, IsTold, IsTurned, sends_parts, sends_from, applied_up}

-- QUEUES OF A NEW SESSION

abbrev in_queues : List Queue → Addr → Addr → Option (List Message)
in_queues qs a b = messages_in qs (direction a b)

-- one direction more leaves a queue where there was one, and none of the others changes
still_there : (b : Bool) (e : Direction) (qs : List Queue) (x y : Addr) → same_ends e (direction x y) ≡ b →
    is_some (in_queues qs x y) ≡ true → is_some (in_queues (with_direction e qs) x y) ≡ true
still_there true e qs x y is h = ap is_some (messages_new e (direction x y) qs is)
still_there false e qs x y is h = ap is_some (messages_other e (direction x y) qs is) ∙ h

still_empty : (b : Bool) (e : Direction) (qs : List Queue) (x y : Addr) → same_ends e (direction x y) ≡ b →
    unwrap_or (in_queues qs x y) [] ≡ [] → unwrap_or (in_queues (with_direction e qs) x y) [] ≡ []
still_empty true e qs x y is h = ap (λ o. unwrap_or o []) (messages_new e (direction x y) qs is)
still_empty false e qs x y is h = ap (λ o. unwrap_or o []) (messages_other e (direction x y) qs is) ∙ h

new_there : (e : Direction) (qs : List Queue) → is_some (in_queues (with_direction e qs) e.from e.to) ≡ true
new_there e qs = ap is_some (messages_new e e qs (same_ends_itself e))

-- the two of a new session have no session yet
not_joined : (c : Configuration) (x y a b : Addr) → has_session c x y ≡ false → has_session c a b ≡ true →
    same_ends (direction x y) (direction a b) ≡ false
not_joined c x y a b none is =
    false_from_ne_true (same_ends (direction x y) (direction a b))
    (λ h. true≢false (sym is
    ∙ ap (λ e. has_session c e.from e.to) (sym (same_ends_true (direction x y) (direction a b) h)) ∙ none))

-- where there was a session, the messages stay
queues_kept : (c : Configuration) (e : Edit) (qs : List Queue) → Passes c e → (a b : Addr) → has_session c a b ≡ true →
    in_queues (with_queues e qs) a b ≡ in_queues qs a b
queues_kept c (Join x y) qs ok a b is =
    messages_other (direction x y) (direction a b) (with_direction (direction y x) qs)
    (not_joined c x y a b ok.apart is)
    ∙ messages_other (direction y x) (direction a b) qs (not_joined c y x a b (session_either c y x ∙ ok.apart) is)
queues_kept c e qs ok a b is = refl

-- where nothing was on its way, nothing is
queues_empty : (e : Edit) (qs : List Queue) (a b : Addr) → unwrap_or (in_queues qs a b) [] ≡ [] →
    unwrap_or (in_queues (with_queues e qs) a b) [] ≡ []
queues_empty (Join x y) qs a b h =
    still_empty (same_ends (direction x y) (direction a b)) (direction x y) (with_direction (direction y x) qs) a b refl
    (still_empty (same_ends (direction y x) (direction a b)) (direction y x) qs a b refl h)
queues_empty e qs a b h = h

-- both directions of a new session have a queue
pair_there : (x y a b : Addr) (qs : List Queue) → ArePair a b x y →
    is_some (in_queues (with_queues (Join x y) qs) a b) ≡ true
pair_there x y a b qs (inl same) =
    ap is_some (λ i. in_queues (with_queues (Join x y) qs) (same.0 i) (same.1 i))
    ∙ new_there (direction x y) (with_direction (direction y x) qs)
pair_there x y a b qs (inr same) =
    ap is_some (λ i. in_queues (with_queues (Join x y) qs) (same.0 i) (same.1 i))
    ∙ still_there (same_ends (direction x y) (direction y x)) (direction x y) (with_direction (direction y x) qs) y x
    refl (new_there (direction y x) qs)

joined_there : (e : Edit) (a b : Addr) (qs : List Queue) → Joins e a b →
    is_some (in_queues (with_queues e qs) a b) ≡ true
joined_there e a b qs (x, y, is, pair) = ap (λ f. is_some (in_queues (with_queues f qs) a b)) is
    ∙ pair_there x y a b qs pair

both_there : (p q : Bool) → not (p && q) ≡ false → (p ≡ true) × (q ≡ true)
both_there true true h = (refl, refl)
both_there true false h = absurd (true≢false h)
both_there false q h = absurd (true≢false h)

pair_placed : (c : Configuration) (x y a b : Addr) → not (has_node c x && has_node c y) ≡ false → ArePair a b x y →
    has_node c a ≡ true
pair_placed c x y a b ok (inl same) = ap (has_node c) same.0 ∙ (both_there (has_node c x) (has_node c y) ok).0
pair_placed c x y a b ok (inr same) = ap (has_node c) same.0 ∙ (both_there (has_node c x) (has_node c y) ok).1

pub joined_placed : (c : Configuration) (e : Edit) (a b : Addr) → lacks_node c e ≡ false → Joins e a b →
    has_node c a ≡ true
joined_placed c e a b ok (x, y, is, pair) = pair_placed c x y a b (ap (lacks_node c) (sym is) ∙ ok) pair

-- THE EDIT

no_messages : (b : Bool) (o : Option (List Message)) → b ≡ false → unwrap_or (option_map (λ ms. cond b ms []) o) [] ≡ []
no_messages b None is = refl
no_messages b (Some ms) is = ap (λ x. cond x ms []) is

all_messages : (b : Bool) (o : Option (List Message)) → b ≡ true →
    unwrap_or (option_map (λ ms. cond b ms []) o) [] ≡ unwrap_or o []
all_messages b None is = refl
all_messages b (Some ms) is = ap (λ x. cond x ms []) is

module _ (s : Network) (e : Edit) (told : IsTold s) (ok : Passes s.conf e) where
  abbrev new : Configuration
  new = edited s.conf e

  conf_now : (after_edit s e).conf ≡ new
  unfolding reconfigured
  conf_now = refl

  route_now : (r t : Addr) (p : Prefix) →
      route_from (after_edit s e).received t p r ≡ cond (is_up new r t) (route_from s.received t p r) None
  unfolding reconfigured
  route_now r t p = route_kept new s.received r t p

  messages_now : (a b : Addr) → in_queues (after_edit s e).queues a b ≡ option_map (λ ms. cond (is_up new a b) ms [])
      (in_queues (with_queues e s.queues) a b)
  unfolding reconfigured
  messages_now a b = messages_emptied new (direction a b) (with_queues e s.queues)

  waiting_up : (a b : Addr) → is_up new a b ≡ true →
      waiting (after_edit s e) a b ≡ unwrap_or (in_queues (with_queues e s.queues) a b) []
  waiting_up a b up = ap (λ o. unwrap_or o []) (messages_now a b)
      ∙ all_messages (is_up new a b) (in_queues (with_queues e s.queues) a b) up

  route_up : (r t : Addr) (p : Prefix) → is_up new r t ≡ true →
      route_from (after_edit s e).received t p r ≡ route_from s.received t p r
  route_up r t p up = route_now r t p ∙ ap (λ b. cond b (route_from s.received t p r) None) up

  applied_now : (r t : Addr) (p : Prefix) → is_up new r t ≡ true →
      applied (after_edit s e) r t p ≡ after_messages p (route_from s.received t p r)
      (unwrap_or (in_queues (with_queues e s.queues) r t) [])
  unfolding reconfigured
  applied_now r t p up = applied_up (after_edit s e) r t p up
      ∙ (λ i. after_messages p (route_up r t p up i) (waiting_up r t up i))

  -- who sends after the edit over a session that was up sent before
  sent_before : (r t : Addr) → sends new r t ≡ true → is_up s.conf r t ≡ true → sends s.conf r t ≡ true
  sent_before r t is up =
      let here = told.tidy.placed r t (session_if_up s.conf r t up) in
      let same : is_virtual new r ≡ is_virtual s.conf r =
      ap (λ o. unwrap_or (option_map (λ n. is_kind_virtual n.kind) o) false) (node_kept s.conf e ok r here) in
      sends_from s.conf r t here (ap not (sym same) ∙ (sends_parts new r t is).1) up

  before_by : (b : Bool) (r t : Addr) (p : Prefix) → is_up s.conf r t ≡ b → sends new r t ≡ true →
      applied (after_edit s e) r t p ≡ advertised s r t p
  before_by true r t p up is =
      applied_now r t p (sends_parts new r t is).2
      ∙ ap (λ o. after_messages p (route_from s.received t p r) (unwrap_or o []))
      (queues_kept s.conf e s.queues ok r t (session_if_up s.conf r t up))
      ∙ sym (applied_up s r t p up)
      ∙ told.law r t p (sent_before r t is up)
  before_by false r t p down is =
      applied_now r t p (sends_parts new r t is).2
      ∙ (λ i. after_messages p (told.tidy.no_route r t down p i)
      (queues_empty e s.queues r t (told.tidy.no_message r t down) i))
      ∙ sym (advertised_down s r t p down)

  there_by : (a b : Addr) → (has_session s.conf a b ≡ true) ⊎ Joins e a b →
      is_some (in_queues (with_queues e s.queues) a b) ≡ true
  there_by a b (inl was) = ap is_some (queues_kept s.conf e s.queues ok a b was) ∙ told.tidy.there a b was
  there_by a b (inr joins) = joined_there e a b s.queues joins

  placed_by : (a b : Addr) → (has_session s.conf a b ≡ true) ⊎ Joins e a b → has_node s.conf a ≡ true
  placed_by a b (inl was) = told.tidy.placed a b was
  placed_by a b (inr joins) = joined_placed s.conf e a b ok.nodes joins

  placed_now : (a b : Addr) → has_session new a b ≡ true → has_node new a ≡ true
  placed_now a b is =
      let here = placed_by a b (session_old_or_new s.conf e ok a b is) in
      ap is_some (node_kept s.conf e ok a here) ∙ here

  there_now : (a b : Addr) → has_session new a b ≡ true → is_some (in_queues (after_edit s e).queues a b) ≡ true
  there_now a b is =
      ap is_some (messages_now a b)
      ∙ some_mapped (λ ms. cond (is_up new a b) ms []) (in_queues (with_queues e s.queues) a b)
      ∙ there_by a b (session_old_or_new s.conf e ok a b is)

  pub turned_edited : IsTurned s (after_edit s e)
  unfolding reconfigured
  turned_edited = record {
    before = λ r t p is. before_by (is_up s.conf r t) r t p refl is;
    tidy = record {
      no_route = λ a b down p. route_now a b p ∙ ap (λ x. cond x (route_from s.received b p a) None) down;
      no_message = λ a b down. ap (λ o. unwrap_or o []) (messages_now a b)
          ∙ no_messages (is_up new a b) (in_queues (with_queues e s.queues) a b) down;
      there = there_now;
      ordered = ordered_kept new s.received told.tidy.ordered;
      placed = placed_now;
    };
  }
