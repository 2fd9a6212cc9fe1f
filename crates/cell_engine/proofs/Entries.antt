-- Entries in the order of their keys: what comes before and after a key that is put in or taken out.
use Rattle.std.proofs.Common.{◌≡◌, cond, List, [], ◌∷◌, ◌++◌, filter, refl, sym, ap, ◌∙◌}
use Rattle.std.specs.declared.cmp.Ordering.{Ordering}
use Rattle.std.specs.declared.cmp.Ordering.TheVariants.{Less, Equal, Greater}
use Rattle.std.specs.Ordering.{match_ordering, is_eq, is_lt, is_gt}
use Rattle.std.specs.Cmp.{IsTotalOrder}
use Rattle.std.specs.List.{AllByRecursion}
use Rattle.std.specs.List.Sorted.{IsStrictlySortedBy}
use Rattle.std.specs.Map.{keys_of, remove_entry}
use Rattle.std.specs.BTreeMap.{insert_entry, is_at}
use Rattle.std.proofs.lemmas.Map.Lookups.{CmpEqualImpliesEq}
use Rattle.reference_machine.proofs.Entries.{all_past}

all_alike : {K : Type 0} {cmp : K → K → Ordering} → IsTotalOrder cmp → (k j : K) (ks : List K) → cmp k j ≡ Equal →
    AllByRecursion (λ y. cmp j y ≡ Less) ks → AllByRecursion (λ y. cmp k y ≡ Less) ks
all_alike o k j [] is h = tt
all_alike o k j (x ∷ ks) is h = (o.congr k j x is ∙ h.0, all_alike o k j ks is h.1)

module _ {K X : Type 0} {cmp : K → K → Ordering} (o : IsTotalOrder cmp) where
  abbrev Ordered : List (K × X) → Type 0
  Ordered es = IsStrictlySortedBy cmp (keys_of es)

  -- BY PARTS: the entries before a key, and those after it

  abbrev pub before : K → List (K × X) → List (K × X)
  before k es = filter (λ e. is_gt (cmp k e.0)) es

  abbrev pub after : K → List (K × X) → List (K × X)
  after k es = filter (λ e. is_lt (cmp k e.0)) es

  none_before : (k : K) (es : List (K × X)) → AllByRecursion (λ y. cmp k y ≡ Less) (keys_of es) → before k es ≡ []
  none_before k [] h = refl
  none_before k (e ∷ es) h = ap (λ r. cond (is_gt r) (e ∷ before k es) (before k es)) h.0 ∙ none_before k es h.1

  all_after : (k : K) (es : List (K × X)) → AllByRecursion (λ y. cmp k y ≡ Less) (keys_of es) → after k es ≡ es
  all_after k [] h = refl
  all_after k (e ∷ es) h = ap (λ r. cond (is_lt r) (e ∷ after k es) (after k es)) h.0
      ∙ ap (λ l. e ∷ l) (all_after k es h.1)

  abbrev sided : Ordering → K × X → List (K × X) → List (K × X) → List (K × X) → List (K × X)
  sided r e befores middle afters = cond (is_gt r) (e ∷ befores) befores
      ++ (middle ++ cond (is_lt r) (e ∷ afters) afters)

  inserted_by : (exact : CmpEqualImpliesEq cmp) (r : Ordering) (k : K) (v : X) (e : K × X) (es more : List (K × X)) →
      cmp k e.0 ≡ r → AllByRecursion (λ y. cmp e.0 y ≡ Less) (keys_of es) → more ≡ before k es ++ (k, v) ∷ after k es →
      match_ordering r ((k, v) ∷ e ∷ es) ((e.0, v) ∷ es) (e ∷ more) ≡ sided r e (before k es) ((k, v) ∷ []) (after k es)
  inserted_by exact Less k v e es more is h rest =
      let below = all_past o k e.0 (keys_of es) is h in
      λ i. sym (none_before k es below) i ++ (k, v) ∷ e ∷ sym (all_after k es below) i
  inserted_by exact Equal k v e es more is h rest =
      let below = all_alike o k e.0 (keys_of es) is h in
      λ i. sym (none_before k es below) i ++ (sym (exact k e.0 is) i, v) ∷ sym (all_after k es below) i
  inserted_by exact Greater k v e es more is h rest = ap (λ l. e ∷ l) rest

  -- an entry put in stands between those before it and those after it
  pub inserted_between : CmpEqualImpliesEq cmp → (k : K) (v : X) (es : List (K × X)) → Ordered es →
      insert_entry cmp es k v ≡ before k es ++ (k, v) ∷ after k es
  unfolding IsStrictlySortedBy
  inserted_between exact k v [] h = refl
  inserted_between exact k v (e ∷ es) h = inserted_by exact (cmp k e.0) k v e es (insert_entry cmp es k v) refl h.0
      (inserted_between exact k v es h.1)

  removed_by : (r : Ordering) (k : K) (e : K × X) (es less : List (K × X)) → cmp k e.0 ≡ r →
      AllByRecursion (λ y. cmp e.0 y ≡ Less) (keys_of es) → less ≡ before k es ++ after k es →
      cond (is_eq r) es (e ∷ less) ≡ sided r e (before k es) [] (after k es)
  removed_by Less k e es less is h rest =
      let none = none_before k es (all_past o k e.0 (keys_of es) is h) in
      ap (λ l. e ∷ l) rest ∙ (λ i. e ∷ (none i ++ after k es)) ∙ (λ i. sym none i ++ e ∷ after k es)
  removed_by Equal k e es less is h rest =
      let below = all_alike o k e.0 (keys_of es) is h in
      λ i. sym (none_before k es below) i ++ sym (all_after k es below) i
  removed_by Greater k e es less is h rest = ap (λ l. e ∷ l) rest

  -- what is left once a key's entry is taken out is before it or after it
  pub removed_between : (k : K) (es : List (K × X)) → Ordered es →
      remove_entry (is_at (cmp k)) es ≡ before k es ++ after k es
  unfolding IsStrictlySortedBy
  removed_between k [] h = refl
  removed_between k (e ∷ es) h = removed_by (cmp k e.0) k e es (remove_entry (is_at (cmp k)) es) refl h.0
      (removed_between k es h.1)
