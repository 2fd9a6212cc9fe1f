-- What is on its way in one direction, after a change of the queues.
use Rattle.std.proofs.Common.{◌≡◌, Bool, true, false, cond, List, [], ◌∷◌, ◌++◌, map, filter, find, Option, Some, None, option_map, if◌then◌else◌, refl, sym, ap, ◌∙◌}
use Rattle.std.specs.declared.cmp.Ordering.{Ordering}
use Rattle.std.specs.declared.cmp.Ordering.TheVariants.{Less, Equal, Greater}
use Rattle.std.specs.Ordering.{is_eq, is_lt, is_gt}
use Rattle.std.specs.Option.{option_or}
use Rattle.std.proofs.lemmas.Bool.{true≢false}
use Rattle.std.proofs.lemmas.List.Folds.{find-append}
use Rattle.session_queue.specs.declared.message.Message.{Message}
use Rattle.session_queue.specs.declared.direction.Direction.{Direction}
use Rattle.session_queue.specs.Waiting.{direction_cmp}
use Rattle.net_conf.specs.Configuration.{Configuration}
use Rattle.net_conf.specs.Costs.{is_up}
use Rattle.reference_machine.specs.declared.rows.Queue.{Queue}
use Rattle.reference_machine.specs.Network.{Network, is_of, messages_in, with_direction, with_more, with_one_more, with_message, rest_of, without_its_head, without_head}
use Rattle.reference_machine.specs.Advertising.{sent}
use Rattle.reference_machine.specs.Machine.{emptied}
use Rattle.session_law.proofs.Lists.{find_kept, find_dropped, find_mapped}
use Rattle.session_law.proofs.Keys.{same_ends, same_ends_true, direction_tied}

of_direction : (d : Direction) (q : Queue) → is_of d q ≡ true → q.of ≡ d
of_direction d q h = same_ends_true q.of d h

-- A CHANGE OF EACH QUEUE

-- what the messages of the direction become, where each queue keeps its direction
pub messages_mapped : (d : Direction) (f : Queue → Queue) (g : List Message → List Message) →
    ((q : Queue) → (f q).of ≡ q.of) → ((q : Queue) → q.of ≡ d → (f q).messages ≡ g q.messages) → (qs : List Queue) →
    messages_in (map f qs) d ≡ option_map g (messages_in qs d)
messages_mapped d f g keeps here qs =
    find_mapped (λ q. q.messages) (is_of d) f g (λ q. ap (λ e. same_ends e d) (keeps q))
    (λ q is. here q (of_direction d q is)) qs

-- what is sent comes to the end
pub messages_sent : (s s' : Network) (d : Direction) (qs : List Queue) →
    messages_in (map (λ q. with_more q (sent s s' q.of.from q.of.to)) qs) d
    ≡ option_map (λ ms. ms ++ sent s s' d.from d.to) (messages_in qs d)
messages_sent s s' d qs = messages_mapped d (λ q. with_more q (sent s s' q.of.from q.of.to))
    (λ ms. ms ++ sent s s' d.from d.to) (λ q. refl) (λ q is. ap (λ e. q.messages ++ sent s s' e.from e.to) is) qs

emptied_of : (b : Bool) (q : Queue) → (if b then q else record { of = q.of; messages = [] }).of ≡ q.of
emptied_of true q = refl
emptied_of false q = refl

emptied_messages : (b : Bool) (q : Queue) → (if b then q else record { of = q.of; messages = [] }).messages
    ≡ cond b q.messages []
emptied_messages true q = refl
emptied_messages false q = refl

-- what is on its way over a session that is down is gone
pub messages_emptied : (c : Configuration) (d : Direction) (qs : List Queue) →
    messages_in (map (emptied c) qs) d ≡ option_map (λ ms. cond (is_up c d.from d.to) ms []) (messages_in qs d)
messages_emptied c d qs = messages_mapped d (emptied c) (λ ms. cond (is_up c d.from d.to) ms [])
    (λ q. emptied_of (is_up c q.of.from q.of.to) q) (λ q is. emptied_messages (is_up c q.of.from q.of.to) q
    ∙ ap (λ e. cond (is_up c e.from e.to) q.messages []) is) qs

without_its_head_of : (b : Bool) (q : Queue) → (if b then record q { messages = rest_of q.messages } else q).of ≡ q.of
without_its_head_of true q = refl
without_its_head_of false q = refl

without_its_head_messages : (b : Bool) (q : Queue) →
    (if b then record q { messages = rest_of q.messages } else q).messages ≡ cond b (rest_of q.messages) q.messages
without_its_head_messages true q = refl
without_its_head_messages false q = refl

-- the head of one direction is gone
pub messages_without_head : (e d : Direction) (qs : List Queue) →
    messages_in (without_head e qs) d ≡ option_map (λ ms. cond (same_ends d e) (rest_of ms) ms) (messages_in qs d)
messages_without_head e d qs = messages_mapped d (without_its_head e) (λ ms. cond (same_ends d e) (rest_of ms) ms)
    (λ q. without_its_head_of (is_of e q) q) (λ q is. without_its_head_messages (is_of e q) q
    ∙ ap (λ f. cond (same_ends f e) (rest_of q.messages) q.messages) is) qs

with_one_more_of : (b : Bool) (m : Message) (q : Queue) → (if b then with_more q (m ∷ []) else q).of ≡ q.of
with_one_more_of true m q = refl
with_one_more_of false m q = refl

with_one_more_messages : (b : Bool) (m : Message) (q : Queue) → (if b then with_more q (m ∷ []) else q).messages
    ≡ cond b (q.messages ++ m ∷ []) q.messages
with_one_more_messages true m q = refl
with_one_more_messages false m q = refl

-- a message comes to the end of one direction
pub messages_with_message : (e d : Direction) (m : Message) (qs : List Queue) →
    messages_in (with_message e m qs) d ≡ option_map (λ ms. cond (same_ends d e) (ms ++ m ∷ []) ms) (messages_in qs d)
messages_with_message e d m qs = messages_mapped d (with_one_more e m) (λ ms. cond (same_ends d e) (ms ++ m ∷ []) ms)
    (λ q. with_one_more_of (is_of e q) m q) (λ q is. with_one_more_messages (is_of e q) m q
    ∙ ap (λ f. cond (same_ends f e) (q.messages ++ m ∷ []) q.messages) is) qs

-- ONE DIRECTION MORE

-- what stands before the queue of a new direction, and what after it
abbrev before : Direction → List Queue → List Queue
before e qs = filter (λ q. is_gt (direction_cmp e q.of)) qs

abbrev after : Direction → List Queue → List Queue
after e qs = filter (λ q. is_lt (direction_cmp e q.of)) qs

compared : (e d : Direction) (test : Ordering → Bool) (b : Bool) → test (direction_cmp e d) ≡ b → (q : Queue) →
    is_of d q ≡ true → test (direction_cmp e q.of) ≡ b
compared e d test b is q here = ap (λ f. test (direction_cmp e f)) (of_direction d q here) ∙ is

abbrev new_queue : Direction → Queue
new_queue e = record { of = e; messages = [] }

none_or : {A : Type 0} (o : Option A) → option_or o None ≡ o
none_or None = refl
none_or (Some x) = refl

parts_found : (e d : Direction) (qs : List Queue) →
    find (is_of d) (with_direction e qs) ≡ option_or (find (is_of d) (before e qs))
    (cond (same_ends e d) (Some (new_queue e)) (find (is_of d) (after e qs)))
parts_found e d qs = find-append (is_of d) (before e qs) (new_queue e ∷ after e qs)

other_by_order : (r : Ordering) (e d : Direction) (qs : List Queue) → direction_cmp e d ≡ r → same_ends e d ≡ false →
    find (is_of d) (with_direction e qs) ≡ find (is_of d) qs
other_by_order Less e d qs is other =
    parts_found e d qs
    ∙ ap (λ o. option_or o (cond (same_ends e d) (Some (new_queue e)) (find (is_of d) (after e qs))))
    (find_dropped (is_of d) (λ q. is_gt (direction_cmp e q.of)) (compared e d is_gt false (ap is_gt is)) qs)
    ∙ ap (λ b. cond b (Some (new_queue e)) (find (is_of d) (after e qs))) other
    ∙ find_kept (is_of d) (λ q. is_lt (direction_cmp e q.of)) (compared e d is_lt true (ap is_lt is)) qs
other_by_order Equal e d qs is other = absurd (true≢false (sym (direction_tied e d ∙ ap is_eq is) ∙ other))
other_by_order Greater e d qs is other =
    parts_found e d qs
    ∙ ap (λ b. option_or (find (is_of d) (before e qs)) (cond b (Some (new_queue e)) (find (is_of d) (after e qs))))
    other
    ∙ ap (option_or (find (is_of d) (before e qs))) (find_dropped (is_of d) (λ q. is_lt (direction_cmp e q.of))
    (compared e d is_lt false (ap is_lt is)) qs)
    ∙ none_or (find (is_of d) (before e qs))
    ∙ find_kept (is_of d) (λ q. is_gt (direction_cmp e q.of)) (compared e d is_gt true (ap is_gt is)) qs

-- another direction keeps what is on its way
pub messages_other : (e d : Direction) (qs : List Queue) → same_ends e d ≡ false →
    messages_in (with_direction e qs) d ≡ messages_in qs d
messages_other e d qs other = ap (option_map (λ q. q.messages)) (other_by_order (direction_cmp e d) e d qs refl other)

same_order : (e d : Direction) → same_ends e d ≡ true → is_gt (direction_cmp e d) ≡ false
same_order e d same = not_past (direction_cmp e d) (sym (direction_tied e d) ∙ same) where
  not_past : (r : Ordering) → is_eq r ≡ true → is_gt r ≡ false
  not_past Less h = refl
  not_past Equal h = refl
  not_past Greater h = absurd (true≢false (sym h))

-- the new direction has nothing on its way
pub messages_new : (e d : Direction) (qs : List Queue) → same_ends e d ≡ true →
    messages_in (with_direction e qs) d ≡ Some []
messages_new e d qs same =
    ap (option_map (λ q. q.messages)) (
    parts_found e d qs
    ∙ ap (λ o. option_or o (cond (same_ends e d) (Some (new_queue e)) (find (is_of d) (after e qs))))
    (find_dropped (is_of d) (λ q. is_gt (direction_cmp e q.of)) (compared e d is_gt false (same_order e d same)) qs)
    ∙ ap (λ b. cond b (Some (new_queue e)) (find (is_of d) (after e qs))) same)
