-- What is put in or taken out leaves the order, and a key that is there already, or is not there, changes nothing.
use Rattle.std.proofs.Common.{◌≡◌, Bool, true, false, cond, ◌||◌, List, [], ◌∷◌, Some, refl, sym, ap, subst, ◌∙◌}
use Rattle.std.specs.Prelude.{is_some}
use Rattle.std.specs.List.{AllByRecursion, list_any}
use Rattle.std.specs.List.Sorted.{IsStrictlySortedBy}
use Rattle.std.specs.declared.cmp.Ordering.{Ordering}
use Rattle.std.specs.declared.cmp.Ordering.TheVariants.{Less, Equal, Greater}
use Rattle.std.specs.Ordering.{is_eq, ordering_reverse, match_ordering}
use Rattle.std.specs.Cmp.{IsTotalOrder}
use Rattle.std.specs.Map.{keys_of, lookup, remove_entry}
use Rattle.std.specs.Set.{remove_key}
use Rattle.std.specs.BTreeMap.{insert_entry, is_at}
use Rattle.std.specs.BTreeSet.{insert_key}
use Rattle.std.proofs.lemmas.Bool.{true≢false}

module _ {K : Type 0} (cmp : K → K → Ordering) where
  all_past : (total : IsTotalOrder cmp) (q k : K) (ks : List K) → cmp q k ≡ Less →
      AllByRecursion (λ y. cmp k y ≡ Less) ks → AllByRecursion (λ y. cmp q y ≡ Less) ks
  all_past total q k [] p h = tt
  all_past total q k (x ∷ xs) p h = (total.trans q k x p h.0, all_past total q k xs p h.1)

  -- KEYS

  all_put : (P : K → Type 0) (q : K) (ks : List K) → P q → AllByRecursion P ks → AllByRecursion P (insert_key cmp ks q)
  all_put P q [] p h = (p, tt)
  all_put P q (k ∷ ks) p h = by (cmp q k) (all_put P q ks p h.1)
    where
      by : (o : Ordering) → AllByRecursion P (insert_key cmp ks q) →
          AllByRecursion P (match_ordering o (q ∷ k ∷ ks) (k ∷ ks) (k ∷ insert_key cmp ks q))
      by Less rest = (p, h)
      by Equal rest = h
      by Greater rest = (h.0, rest)

  pub put_in_order : (total : IsTotalOrder cmp) (q : K) (ks : List K) → IsStrictlySortedBy cmp ks →
      IsStrictlySortedBy cmp (insert_key cmp ks q)
  unfolding IsStrictlySortedBy
  put_in_order total q [] h = (tt, tt)
  put_in_order total q (k ∷ ks) h = by (cmp q k) refl (put_in_order total q ks h.1)
    where
      by : (o : Ordering) → cmp q k ≡ o → IsStrictlySortedBy cmp (insert_key cmp ks q) →
          IsStrictlySortedBy cmp (match_ordering o (q ∷ k ∷ ks) (k ∷ ks) (k ∷ insert_key cmp ks q))
      by Less is rest = ((is, all_past total q k ks is h.0), h)
      by Equal is rest = h
      by Greater is rest = (all_put (λ y. cmp k y ≡ Less) q ks (total.antisymm k q ∙ ap ordering_reverse is) h.0, rest)

  all_left : (P : K → Type 0) (test : K → Bool) (ks : List K) → AllByRecursion P ks →
      AllByRecursion P (remove_key test ks)
  all_left P test [] h = tt
  all_left P test (k ∷ ks) h = by (test k) (all_left P test ks h.1)
    where
      by : (b : Bool) → AllByRecursion P (remove_key test ks) → AllByRecursion P (cond b ks (k ∷ remove_key test ks))
      by true rest = h.1
      by false rest = (h.0, rest)

  pub left_in_order : (test : K → Bool) (ks : List K) → IsStrictlySortedBy cmp ks →
      IsStrictlySortedBy cmp (remove_key test ks)
  unfolding IsStrictlySortedBy
  left_in_order test [] h = tt
  left_in_order test (k ∷ ks) h = by (test k) (left_in_order test ks h.1)
    where
      by : (b : Bool) → IsStrictlySortedBy cmp (remove_key test ks) →
          IsStrictlySortedBy cmp (cond b ks (k ∷ remove_key test ks))
      by true rest = h.1
      by false rest = (all_left (λ y. cmp k y ≡ Less) test ks h.0, rest)

  none_below : (q : K) (ks : List K) → AllByRecursion (λ y. cmp q y ≡ Less) ks → list_any (is_at (cmp q)) ks ≡ false
  none_below q [] h = refl
  none_below q (k ∷ ks) h = λ i. ap is_eq h.0 i || none_below q ks h.1 i

  -- a key that is there is not put in once more
  pub put_present : (total : IsTotalOrder cmp) (q : K) (ks : List K) → IsStrictlySortedBy cmp ks →
      list_any (is_at (cmp q)) ks ≡ true → ks ≡ insert_key cmp ks q
  unfolding IsStrictlySortedBy
  put_present total q [] h there = absurd (true≢false (sym there))
  put_present total q (k ∷ ks) h there = by (cmp q k) refl (put_present total q ks h.1) there
    where
      by : (o : Ordering) → cmp q k ≡ o → (list_any (is_at (cmp q)) ks ≡ true → ks ≡ insert_key cmp ks q) →
          (is_eq o || list_any (is_at (cmp q)) ks) ≡ true →
          k ∷ ks ≡ match_ordering o (q ∷ k ∷ ks) (k ∷ ks) (k ∷ insert_key cmp ks q)
      by Less is rest found = absurd (true≢false (sym found ∙ none_below q ks (all_past total q k ks is h.0)))
      by Equal is rest found = refl
      by Greater is rest found = ap (λ xs. k ∷ xs) (rest found)

  -- a key that is not there is not taken out
  pub keys_absent : (test : K → Bool) (ks : List K) → list_any test ks ≡ false → ks ≡ remove_key test ks
  keys_absent test [] none = refl
  keys_absent test (k ∷ ks) none = by (test k) (keys_absent test ks) none
    where
      by : (b : Bool) → (list_any test ks ≡ false → ks ≡ remove_key test ks) → (b || list_any test ks) ≡ false →
          k ∷ ks ≡ cond b ks (k ∷ remove_key test ks)
      by true rest none = absurd (true≢false none)
      by false rest none = ap (λ xs. k ∷ xs) (rest none)

  -- ENTRIES

  module _ {V : Type 0} where
    keys_put : (q : K) (v : V) (es : List (K × V)) → keys_of (insert_entry cmp es q v) ≡ insert_key cmp (keys_of es) q
    keys_put q v [] = refl
    keys_put q v (e ∷ es) = by (cmp q e.0) (keys_put q v es)
      where
        by : (o : Ordering) → keys_of (insert_entry cmp es q v) ≡ insert_key cmp (keys_of es) q →
            keys_of (match_ordering o ((q, v) ∷ e ∷ es) ((e.0, v) ∷ es) (e ∷ insert_entry cmp es q v))
            ≡ match_ordering o (q ∷ e.0 ∷ keys_of es) (e.0 ∷ keys_of es) (e.0 ∷ insert_key cmp (keys_of es) q)
        by Less rest = refl
        by Equal rest = refl
        by Greater rest = ap (λ ks. e.0 ∷ ks) rest

    keys_left : (test : K → Bool) (es : List (K × V)) → keys_of (remove_entry test es) ≡ remove_key test (keys_of es)
    keys_left test [] = refl
    keys_left test (e ∷ es) = by (test e.0) (keys_left test es)
      where
        by : (b : Bool) → keys_of (remove_entry test es) ≡ remove_key test (keys_of es) →
            keys_of (cond b es (e ∷ remove_entry test es)) ≡ cond b (keys_of es) (e.0 ∷ remove_key test (keys_of es))
        by true rest = refl
        by false rest = ap (λ ks. e.0 ∷ ks) rest

    pub entries_in_order : (total : IsTotalOrder cmp) (q : K) (v : V) (es new : List (K × V)) →
        new ≡ insert_entry cmp es q v → IsStrictlySortedBy cmp (keys_of es) → IsStrictlySortedBy cmp (keys_of new)
    entries_in_order total q v es new is h = subst (IsStrictlySortedBy cmp) (sym (ap keys_of is ∙ keys_put q v es))
        (put_in_order total q (keys_of es) h)

    pub entries_left_in_order : (test : K → Bool) (es new : List (K × V)) → new ≡ remove_entry test es →
        IsStrictlySortedBy cmp (keys_of es) → IsStrictlySortedBy cmp (keys_of new)
    entries_left_in_order test es new is h = subst (IsStrictlySortedBy cmp) (sym (ap keys_of is ∙ keys_left test es))
        (left_in_order test (keys_of es) h)

    -- an entry that is not there is not taken out
    pub entries_absent : (test : K → Bool) (es : List (K × V)) → is_some (lookup test es) ≡ false →
        es ≡ remove_entry test es
    entries_absent test [] none = refl
    entries_absent test (e ∷ es) none = by (test e.0) (entries_absent test es) none
      where
        by : (b : Bool) → (is_some (lookup test es) ≡ false → es ≡ remove_entry test es) →
            is_some (cond b (Some e.1) (lookup test es)) ≡ false → e ∷ es ≡ cond b es (e ∷ remove_entry test es)
        by true rest none = absurd (true≢false none)
        by false rest none = ap (λ xs. e ∷ xs) (rest none)
