-- What contracts see of numbered lines, before and after a change.
use Rattle.std.proofs.Common.{◌≡◌, ℕ, ◌<◌, Bool, true, false, ◌&&◌, ◌⊎◌, inl, inr, ⊎_elim, List, [], ◌∷◌, ◌++◌, length, map, drop, slice_get, Option, Some, None, refl, sym, ap, ◌∙◌, subst, arith, if◌then◌else◌, length-append}
use Rattle.std.specs.List.{All}
use Rattle.std.specs.Option.{option_map}
use Rattle.std.specs.BTreeMap.{is_at}
use Rattle.std.specs.Cmp.{unsigned_Decides}
use Rattle.std.proofs.lemmas.List.{map-append, drop-map, length-map, get_or_append_left}
use Rattle.std.proofs.lemmas.List.Elements.{All-head, All-tail, All-get_or, All-weaker, Contains-push}
use Rattle.std.proofs.lemmas.Map.Made.{lookup-map_values}
use Rattle.std.proofs.lemmas.Map.Views.{list_any-from_Contains}
use Rattle.std.proofs.lemmas.Option.{slice_get-map, slice_get_within, get_or_from_slice_get}
use Rattle.net_prefix.specs.declared.addr.Addr.{Addr}
use Rattle.net_prefix.specs.Address.{same_addr}
use Rattle.path_attr.specs.declared.attr.Attr.{Attr}
use Rattle.attr_pool.specs.Hashing.{attr_equiv}
use Rattle.attr_pool.specs.Pooled.{has_attr, with_attr}
use Rattle.session_queue.specs.declared.numbered.Numbered.{Numbered}
use Rattle.session_queue.specs.declared.numbered.Numbered.TheVariants.{Update as NumberedUpdate, Withdraw as NumberedWithdrawal}
use Rattle.session_queue.specs.declared.message.Message.{Message}
use Rattle.session_queue.specs.declared.message.Message.TheVariants.{Update}
use Rattle.session_queue.specs.Lines.{Waiting, Lines, direction_cmp, waiting_at, messages_of, spare_of, messages_at, spare_in, KeepsOtherLines, PassNone}
use Rattle.session_queue.specs.Waiting.{Queues, queue_at, spare_at, KeepsOthers, SkipsNone}
use Rattle.session_queue.specs.Numbers.{no_attr, message_by, waiting_by, shown, IsGiven, AreGiven}
use Rattle.session_queue.proofs.Places.{key}

-- WHAT IS SHOWN

module _ (pool : List Attr) where
  messages_by : (x : Option (Waiting Numbered)) → messages_of (option_map (waiting_by pool) x)
      ≡ map (message_by pool) (messages_of x)
  messages_by None = refl
  messages_by (Some w) = refl

  spare_by : (x : Option (Waiting Numbered)) → spare_of (option_map (waiting_by pool) x) ≡ spare_of x
  spare_by None = refl
  spare_by (Some w) = refl

  -- the queue shows the line's messages
  pub queue_shown : (ls : Lines Numbered) (f t : Addr) →
      queue_at (shown pool ls) f t ≡ map (message_by pool) (messages_at ls f t)
  unfolding queue_at messages_at
  queue_shown ls f t = ap messages_of (lookup-map_values (waiting_by pool) (is_at (direction_cmp (key f t))) ls)
      ∙ messages_by (waiting_at ls f t)

  pub spare_shown : (ls : Lines Numbered) (f t : Addr) → spare_at (shown pool ls) f t ≡ spare_in ls f t
  unfolding spare_at spare_in
  spare_shown ls f t = ap spare_of (lookup-map_values (waiting_by pool) (is_at (direction_cmp (key f t))) ls)
      ∙ spare_by (waiting_at ls f t)

  pub queue_shown_empty : (ls : Lines Numbered) (f t : Addr) → messages_at ls f t ≡ [] →
      queue_at (shown pool ls) f t ≡ []
  queue_shown_empty ls f t none = queue_shown ls f t ∙ ap (map (message_by pool)) none

-- no message is there where none is shown
none_shown : (pool : List Attr) (ns : List Numbered) → map (message_by pool) ns ≡ [] → ns ≡ []
none_shown pool [] e = refl
none_shown pool (n ∷ ns) e = absurd (omega (arith, ap length e))

-- A CHANGE OF THE LINES

-- the lines ls have become ms; q is what was seen of ls
module _ (pool : List Attr) (ls ms : Lines Numbered) (q : Queues) (seen : shown pool ls ≡ q) where
  pub queue_was : (f t : Addr) → queue_at q f t ≡ map (message_by pool) (messages_at ls f t)
  queue_was f t = ap (λ w. queue_at w f t) (sym seen) ∙ queue_shown pool ls f t

  pub spare_was : (f t : Addr) → spare_at q f t ≡ spare_in ls f t
  spare_was f t = ap (λ w. spare_at w f t) (sym seen) ∙ spare_shown pool ls f t

  pub queue_stays : (f t : Addr) → messages_at ms f t ≡ messages_at ls f t →
      queue_at (shown pool ms) f t ≡ queue_at q f t
  queue_stays f t is = queue_shown pool ms f t ∙ ap (map (message_by pool)) is ∙ sym (queue_was f t)

  pub queue_longer : (f t : Addr) (n : Numbered) (m : Message) → message_by pool n ≡ m →
      messages_at ms f t ≡ messages_at ls f t ++ n ∷ [] → queue_at (shown pool ms) f t ≡ queue_at q f t ++ m ∷ []
  queue_longer f t n m by is =
      queue_shown pool ms f t
      ∙ ap (map (message_by pool)) is
      ∙ map-append (message_by pool) (messages_at ls f t) (n ∷ [])
      ∙ (λ i. sym (queue_was f t) i ++ by i ∷ [])

  pub queue_shorter : (f t : Addr) → messages_at ms f t ≡ drop 1 (messages_at ls f t) →
      queue_at (shown pool ms) f t ≡ drop 1 (queue_at q f t)
  queue_shorter f t is =
      queue_shown pool ms f t
      ∙ ap (map (message_by pool)) is
      ∙ sym (drop-map (message_by pool) 1 (messages_at ls f t))
      ∙ ap (drop 1) (sym (queue_was f t))

  pub length_was : (f t : Addr) → length (queue_at q f t) ≡ length (messages_at ls f t)
  length_was f t = ap length (queue_was f t) ∙ length-map (messages_at ls f t) (message_by pool)

  pub message_was : (f t : Addr) (n : ℕ) →
      slice_get (queue_at q f t) n ≡ option_map (message_by pool) (slice_get (messages_at ls f t) n)
  message_was f t n = ap (λ l. slice_get l n) (queue_was f t) ∙ slice_get-map (message_by pool) (messages_at ls f t) n

  pub empty_seen : (f t : Addr) → messages_at ls f t ≡ [] → queue_at q f t ≡ []
  empty_seen f t none = queue_was f t ∙ ap (map (message_by pool)) none

  pub empty_was : (f t : Addr) → queue_at q f t ≡ [] → messages_at ls f t ≡ []
  empty_was f t none = none_shown pool (messages_at ls f t) (sym (queue_was f t) ∙ none)

  pub some_seen : (f t : Addr) → 0 < length (messages_at ls f t) → 0 < length (queue_at q f t)
  some_seen f t some = omega (arith, some, length_was f t)

  pub skips_none : (past found : Option (Addr × Addr)) → PassNone ls past found → SkipsNone q past found
  skips_none past None none = λ f t is. empty_seen f t (none f t is)
  skips_none past (Some d) none = λ f t is before. empty_seen f t (none f t is before)

  pub spare_stays : (f t : Addr) → spare_in ms f t ≡ spare_in ls f t → spare_at (shown pool ms) f t ≡ spare_at q f t
  spare_stays f t is = spare_shown pool ms f t ∙ is ∙ sym (spare_was f t)

  pub others_stay : (from to : Addr) → KeepsOtherLines from to ls ms → KeepsOthers from to q (shown pool ms)
  others_stay from to others = record {
    queue = λ f t h. queue_stays f t (others.messages f t h);
    spare = λ f t h. spare_stays f t (others.spare f t h);
  }

-- NUMBERS THAT WERE GIVEN

both_by : (from to f t : Addr) (a b : Bool) → same_addr f from ≡ a → same_addr t to ≡ b → ((f ≡ from) × (t ≡ to))
    ⊎ ((a && b) ≡ false)
both_by from to f t true true p q = inl (
  ap (λ n. record { 0 = n }) ((unsigned_Decides f.0 from.0).0 p),
  ap (λ n. record { 0 = n }) ((unsigned_Decides t.0 to.0).0 q),
)
both_by from to f t true false p q = inr refl
both_by from to f t false b p q = inr refl

-- what holds of the messages of the direction and of all before the change holds of all after it
pub given_everywhere : (pool : List Attr) (ls ms : Lines Numbered) (from to : Addr) → KeepsOtherLines from to ls ms →
    AreGiven pool ls → All (IsGiven pool) (messages_at ms from to) → AreGiven pool ms
given_everywhere pool ls ms from to others all here = record {
  given = λ f t.
      ⊎_elim
      (λ h. subst (λ x. All (IsGiven pool) (messages_at ms x t)) (sym h.0)
      (subst (λ x. All (IsGiven pool) (messages_at ms from x)) (sym h.1) here))
      (λ h. subst (All (IsGiven pool)) (sym (others.messages f t h)) (all.given f t))
      (both_by from to f t (same_addr f from) (same_addr t to) refl refl);
}

pub given_at : (pool : List Attr) (ls : Lines Numbered) → AreGiven pool ls → (f t : Addr) (k : ℕ) (n : Numbered) →
    slice_get (messages_at ls f t) k ≡ Some n → IsGiven pool n
given_at pool ls all f t k n found =
    subst (IsGiven pool) (get_or_from_slice_get (messages_at ls f t) k n n found)
    (All-get_or (IsGiven pool) (messages_at ls f t) k n (slice_get_within (messages_at ls f t) k n found)
    (all.given f t))

-- A POOL THAT GROWS

-- what was put into a pool is in it
pub has_attr_itself : (pool : List Attr) (attr : Attr) → has_attr (with_attr pool attr) attr ≡ true
has_attr_itself pool attr = by (has_attr pool attr) refl
  where
    by : (b : Bool) → has_attr pool attr ≡ b → has_attr (if b then pool else pool ++ attr ∷ []) attr ≡ true
    by true h = h
    by false h = list_any-from_Contains attr_equiv attr (pool ++ attr ∷ []) (Contains-push pool attr)

module _ (pool : List Attr) (attr : Attr) where
  -- the pool, with or without these attributes at its end
  abbrev grown : Bool → List Attr
  grown b = if b then pool else pool ++ attr ∷ []

  still_given : (b : Bool) (n : Numbered) → IsGiven pool n → IsGiven (grown b) n
  still_given true n h = h
  still_given false (NumberedUpdate p n) h = omega (arith, h, length-append pool (attr ∷ []))
  still_given false (NumberedWithdrawal p) h = tt

  same_message : (b : Bool) (n : Numbered) → IsGiven pool n → message_by (grown b) n ≡ message_by pool n
  same_message true n h = refl
  same_message false (NumberedUpdate p n) h = ap (Update p) (get_or_append_left pool (attr ∷ []) no_attr n h)
  same_message false (NumberedWithdrawal p) h = refl

  same_messages : (b : Bool) (ns : List Numbered) → All (IsGiven pool) ns →
      map (message_by (grown b)) ns ≡ map (message_by pool) ns
  same_messages b [] all = refl
  same_messages b (n ∷ ns) all = λ i. same_message b n (All-head (IsGiven pool) n ns all) i
      ∷ same_messages b ns (All-tail (IsGiven pool) n ns all) i

  -- the queues stay as they are
  pub queue_kept : (ls : Lines Numbered) (f t : Addr) → AreGiven pool ls → queue_at (shown (with_attr pool attr) ls) f t
      ≡ queue_at (shown pool ls) f t
  queue_kept ls f t all = queue_shown (with_attr pool attr) ls f t
      ∙ same_messages (has_attr pool attr) (messages_at ls f t) (all.given f t) ∙ sym (queue_shown pool ls f t)

  pub spare_kept : (ls : Lines Numbered) (f t : Addr) → spare_at (shown (with_attr pool attr) ls) f t
      ≡ spare_at (shown pool ls) f t
  spare_kept ls f t = spare_shown (with_attr pool attr) ls f t ∙ sym (spare_shown pool ls f t)

  pub all_still_given : (ls : Lines Numbered) → AreGiven pool ls → AreGiven (with_attr pool attr) ls
  all_still_given ls all =
      record {
        given = λ f t. All-weaker (IsGiven pool) (IsGiven (with_attr pool attr))
            (still_given (has_attr pool attr)) (messages_at ls f t) (all.given f t);
      }
