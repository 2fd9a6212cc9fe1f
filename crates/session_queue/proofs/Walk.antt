-- The first direction with a message, of those that pass a test.
use Rattle.std.proofs.Common.{◌≡◌, ℕ, ◌==◌, ◌&&◌, ◌<◌, ◌⊎◌, Bool, true, false, not, List, [], ◌∷◌, length, Option, Some, None, inl, inr, ⊎_elim, refl, sym, ap, ◌∙◌, arith}
use Rattle.std.specs.List.{find, filter}
use Rattle.std.specs.List.Sorted.{IsStrictlySortedBy}
use Rattle.std.specs.Map.{lookup, keys_of}
use Rattle.std.specs.BTreeMap.{is_at}
use Rattle.std.specs.BTreeMap.Range.{range_contains}
use Rattle.std.specs.Option.{IfSome, IfNone, option_map}
use Rattle.std.specs.Cmp.{unsigned_Decides}
use Rattle.session_queue.specs.Shards.{shard_of, is_in_shard}
use Rattle.std.specs.declared.ops.Bound.TheVariants.{Unbounded}
use Rattle.std.proofs.lemmas.Bool.Decides.{nat_tests}
use Rattle.std.specs.declared.cmp.Ordering.{Ordering}
use Rattle.std.specs.declared.cmp.Ordering.TheVariants.{Less, Equal, Greater}
use Rattle.std.specs.Ordering.{nat_cmp, is_eq, is_lt, ordering_then}
use Rattle.std.proofs.lemmas.Bool.{false≢true}
use Rattle.std.proofs.lemmas.Option.{none-some}
use Rattle.std.proofs.lemmas.Map.{lookup-none}
use Rattle.std.proofs.lemmas.Map.Keys.{IsDistinct-from_sorted, sorted_tail}
use Rattle.std.proofs.lemmas.Map.Entries.{lookup_head, lookup_tail, none_past_head, none_below_head}
use Rattle.std.proofs.lemmas.Map.Lookups.{exact_unsigned}
use Rattle.std.proofs.lemmas.Cmp.{tied_itself}
use Rattle.net_prefix.specs.declared.addr.Addr.{Addr}
use Rattle.session_queue.specs.declared.numbered.Numbered.{Numbered}
use Rattle.session_queue.specs.declared.direction.Direction.{Direction}
use Rattle.session_queue.specs.Lines.{Waiting, Lines, direction_cmp, messages_of, messages_at, IsPast, PassNone}
use Rattle.session_queue.specs.Tidy.{has_message, start_past}
use Rattle.session_queue.proofs.Places.{direction_total, direction_laws, key, queue_held}

-- what the direction holds
abbrev pub held : Lines Numbered → Direction → Option (Waiting Numbered)
held es d = lookup (is_at (direction_cmp d)) es

is_equal : (o : Ordering) → is_eq o ≡ true → o ≡ Equal
is_equal Less h = absurd (false≢true h)
is_equal Equal h = refl
is_equal Greater h = absurd (false≢true h)

both_equal : (a b : Ordering) → is_eq (ordering_then a b) ≡ true → (a ≡ Equal) × (b ≡ Equal)
both_equal Less b h = absurd (false≢true h)
both_equal Equal b h = (refl, is_equal b h)
both_equal Greater b h = absurd (false≢true h)

-- directions that the order does not tell apart are one
pub same : (d e : Direction) → is_at (direction_cmp d) e ≡ true → d ≡ e
same d e h =
    let parts = both_equal (nat_cmp d.from.0 e.from.0) (nat_cmp d.to.0 e.to.0) h in
    let first = exact_unsigned d.from.0 e.from.0 parts.0 in
    let second = exact_unsigned d.to.0 e.to.0 parts.1 in
    λ i. record { from = record { 0 = first i }; to = record { 0 = second i } }

-- the first entry is that of the direction, or the direction is sought behind it
by_head : (d : Direction) (x : Direction × Waiting Numbered) (xs : Lines Numbered) →
    ((d ≡ x.0) × (held (x ∷ xs) d ≡ Some x.1)) ⊎ (held (x ∷ xs) d ≡ held xs d)
by_head d x xs = go (is_at (direction_cmp d) x.0) refl
  where
    go : (b : Bool) → is_at (direction_cmp d) x.0 ≡ b → ((d ≡ x.0) × (held (x ∷ xs) d ≡ Some x.1))
        ⊎ (held (x ∷ xs) d ≡ held xs d)
    go true h = inl (same d x.0 h, lookup_head (is_at (direction_cmp d)) x xs h)
    go false h = inr (lookup_tail (is_at (direction_cmp d)) x xs h)

-- e is the first of those that pass the test and have a message; with none, no direction that passes has one
pub record IsFirst (past : Direction → Bool) (es : Lines Numbered) (e : Direction × Waiting Numbered) : Type 0 where
  pub holds : held es e.0 ≡ Some e.1
  pub passes : past e.0 ≡ true
  pub full : has_message e.1 ≡ true
  pub none_before : (d : Direction) → past d ≡ true → direction_cmp d e.0 ≡ Less → messages_of (held es d) ≡ []

abbrev pub Finds : (Direction → Bool) → Lines Numbered → Option (Direction × Waiting Numbered) → Type 0
Finds past es None = (d : Direction) → past d ≡ true → messages_of (held es d) ≡ []
Finds past es (Some e) = IsFirst past es e

module _ (past : Direction → Bool) (x : Direction × Waiting Numbered) (xs : Lines Numbered)
    (ordered : IsStrictlySortedBy direction_cmp (keys_of (x ∷ xs))) where
  -- x does not count
  skipped : (past x.0 ≡ true → x.1.messages ≡ []) → (d : Direction) → past d ≡ true → (messages_of (held xs d) ≡ []) →
      messages_of (held (x ∷ xs) d) ≡ []
  skipped blank d passes none = ⊎_elim (λ h. ap messages_of h.1 ∙ blank (sym (ap past h.0) ∙ passes))
      (λ h. ap messages_of h ∙ none) (by_head d x xs)

  behind : (e : Direction × Waiting Numbered) → held xs e.0 ≡ Some e.1 → held (x ∷ xs) e.0 ≡ Some e.1
  behind e found = go (is_at (direction_cmp e.0) x.0) refl
    where
      go : (b : Bool) → is_at (direction_cmp e.0) x.0 ≡ b → held (x ∷ xs) e.0 ≡ Some e.1
      go true h =
          let distinct = IsDistinct-from_sorted direction_cmp (keys_of (x ∷ xs)) ordered in
          let none = lookup-none (is_at (direction_cmp e.0)) xs (none_past_head direction_laws e.0 x xs distinct h) in
          absurd (none-some e.1 (sym none ∙ found))
      go false h = lookup_tail (is_at (direction_cmp e.0)) x xs h ∙ found

  skip : (past x.0 ≡ true → x.1.messages ≡ []) → (r : Option (Direction × Waiting Numbered)) → Finds past xs r →
      Finds past (x ∷ xs) r
  skip blank None finds = λ d passes. skipped blank d passes (finds d passes)
  skip blank (Some e) finds = record {
    holds = behind e finds.holds;
    passes = finds.passes;
    full = finds.full;
    none_before = λ d passes less. skipped blank d passes (finds.none_before d passes less);
  }

  take : past x.0 ≡ true → has_message x.1 ≡ true → Finds past (x ∷ xs) (Some x)
  take passes full = record {
    holds = lookup_head (is_at (direction_cmp x.0)) x xs (ap is_eq (tied_itself direction_total x.0));
    passes = passes;
    full = full;
    none_before = λ d p less.
        ap messages_of (lookup-none (is_at (direction_cmp d)) (x ∷ xs)
        (none_below_head direction_total d x xs ordered less));
  }

no_message : (ms : List Numbered) → not (length ms == 0) ≡ false → ms ≡ []
no_message [] h = refl
no_message (m ∷ ms) h = absurd (grind (arith, nat_tests))

some_message : (ms : List Numbered) → not (length ms == 0) ≡ true → 0 < length ms
some_message [] h = absurd (false≢true h)
some_message (m ∷ ms) h = grind arith

-- the first that passes the test and has a message
abbrev pub first_of : (Direction → Bool) → Lines Numbered → Option (Direction × Waiting Numbered)
first_of past es = find (λ e. has_message e.1) (filter (λ e. past e.0) es)

with_head : (past : Direction → Bool) (x : Direction × Waiting Numbered) (xs : Lines Numbered) →
    IsStrictlySortedBy direction_cmp (keys_of (x ∷ xs)) → (b f : Bool) → past x.0 ≡ b → has_message x.1 ≡ f →
    Finds past xs (first_of past xs) → Finds past (x ∷ xs) (first_of past (x ∷ xs))
with_head past x xs ordered true true passes full rest = rw passes (rw full (take past x xs ordered passes full))
with_head past x xs ordered true false passes full rest =
    rw passes (rw full (skip past x xs ordered (λ p. no_message x.1.messages full) _ rest))
with_head past x xs ordered false f passes full rest =
    rw passes (skip past x xs ordered (λ p. absurd (false≢true (sym passes ∙ p))) _ rest)

finds : (past : Direction → Bool) (es : Lines Numbered) → IsStrictlySortedBy direction_cmp (keys_of es) →
    Finds past es (first_of past es)
finds past [] ordered = λ d passes. refl
finds past (x ∷ xs) ordered = with_head past x xs ordered (past x.0) (has_message x.1) refl refl
    (finds past xs (sorted_tail direction_cmp x.0 (keys_of xs) ordered))

-- past the direction that is given
abbrev pub past_test : Option (Addr × Addr) → Direction → Bool
past_test start d = range_contains direction_cmp (start_past start) Unbounded d

less_from_test : (o : Ordering) → (is_lt o && true) ≡ true → o ≡ Less
less_from_test Less h = refl
less_from_test Equal h = absurd (false≢true h)
less_from_test Greater h = absurd (false≢true h)

past_from_test : (start : Option (Addr × Addr)) (d : Direction) → past_test start d ≡ true → IsPast start (d.from, d.to)
past_from_test None d h = tt
past_from_test (Some s) d h = less_from_test (direction_cmp (key s.0 s.1) d) h

test_from_past : (start : Option (Addr × Addr)) (d : Direction) → IsPast start (d.from, d.to) → past_test start d ≡ true
test_from_past None d h = refl
test_from_past (Some s) d h = ap (λ o. is_lt o && true) h

abbrev pub pair_of : Direction → Addr × Addr
pair_of d = (d.from, d.to)

module _ (q : Lines Numbered) (start : Option (Addr × Addr)) where
  full_at : (x : Option (Direction × Waiting Numbered)) → Finds (past_test start) q x →
      IfSome (option_map pair_of (option_map (λ e. e.0) x)) (λ found. 0 < length (messages_at q found.0 found.1))
  full_at None finds = tt
  full_at (Some e) finds = rw (queue_held e.0.from e.0.to q q refl (Some e.1) (sym finds.holds))
      (some_message e.1.messages finds.full)

  past_at : (x : Option (Direction × Waiting Numbered)) → Finds (past_test start) q x →
      IfSome (option_map pair_of (option_map (λ e. e.0) x)) (IsPast start)
  past_at None finds = tt
  past_at (Some e) finds = past_from_test start e.0 finds.passes

  none_at : (x : Option (Direction × Waiting Numbered)) → Finds (past_test start) q x →
      PassNone q start (option_map pair_of (option_map (λ e. e.0) x))
  none_at None finds = λ from to past. queue_held from to q q refl _ refl
      ∙ finds (key from to) (test_from_past start (key from to) past)
  none_at (Some e) finds = λ from to past less. queue_held from to q q refl _ refl
      ∙ finds.none_before (key from to) (test_from_past start (key from to) past) less

  module _ (ordered : IsStrictlySortedBy direction_cmp (keys_of q)) (found : Option (Addr × Addr))
      (is : found ≡ option_map pair_of (option_map (λ e. e.0) (first_of (past_test start) q))) where
    pub found_full : IfSome found (λ d. 0 < length (messages_at q d.0 d.1))
    found_full = rw is (full_at _ (finds (past_test start) q ordered))

    pub found_past : IfSome found (IsPast start)
    found_past = rw is (past_at _ (finds (past_test start) q ordered))

    pub found_first : PassNone q start found
    found_first = rw is (none_at _ (finds (past_test start) q ordered))

-- OF A SHARD

module _ (q : Lines Numbered) (shard shards : ℕ) where
  in_shard : (d : Direction) → is_in_shard shard shards d ≡ true → shard_of d.to shards ≡ shard
  in_shard d h = (unsigned_Decides (shard_of d.to shards) shard).0 h

  to_shard : (d : Direction) → shard_of d.to shards ≡ shard → is_in_shard shard shards d ≡ true
  to_shard d h = (unsigned_Decides (shard_of d.to shards) shard).1 h

  shard_full_at : (x : Option (Direction × Waiting Numbered)) → Finds (is_in_shard shard shards) q x →
      IfSome (option_map (λ e. e.0) x) (λ d. 0 < length (messages_at q d.from d.to))
  shard_full_at None finds = tt
  shard_full_at (Some e) finds = rw (queue_held e.0.from e.0.to q q refl (Some e.1) (sym finds.holds))
      (some_message e.1.messages finds.full)

  shard_is_at : (x : Option (Direction × Waiting Numbered)) → Finds (is_in_shard shard shards) q x →
      IfSome (option_map (λ e. e.0) x) (λ d. shard_of d.to shards ≡ shard)
  shard_is_at None finds = tt
  shard_is_at (Some e) finds = in_shard e.0 finds.passes

  shard_none_at : (x : Option (Direction × Waiting Numbered)) → Finds (is_in_shard shard shards) q x →
      IfNone (option_map (λ e. e.0) x) ((from to : Addr) → shard_of to shards ≡ shard → messages_at q from to ≡ [])
  shard_none_at None finds = λ from to is. queue_held from to q q refl _ refl
      ∙ finds (key from to) (to_shard (key from to) is)
  shard_none_at (Some e) finds = tt

  module _ (ordered : IsStrictlySortedBy direction_cmp (keys_of q)) (found : Option Direction)
      (is : found ≡ option_map (λ e. e.0) (first_of (is_in_shard shard shards) q)) where
    pub shard_full : IfSome found (λ d. 0 < length (messages_at q d.from d.to))
    shard_full = rw is (shard_full_at _ (finds (is_in_shard shard shards) q ordered))

    pub shard_is : IfSome found (λ d. shard_of d.to shards ≡ shard)
    shard_is = rw is (shard_is_at _ (finds (is_in_shard shard shards) q ordered))

    pub shard_none : IfNone found ((from to : Addr) → shard_of to shards ≡ shard → messages_at q from to ≡ [])
    shard_none = rw is (shard_none_at _ (finds (is_in_shard shard shards) q ordered))
