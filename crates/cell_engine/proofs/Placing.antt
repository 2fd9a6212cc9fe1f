-- A key comes to its place among others.
use Rattle.std.proofs.Common.{◌≡◌, cond, List, [], ◌∷◌, ◌++◌, filter, refl, sym, ap, ◌∙◌}
use Rattle.std.proofs.lemmas.Map.Lookups.{CmpEqualImpliesEq}
use Rattle.std.specs.declared.cmp.Ordering.{Ordering}
use Rattle.std.specs.declared.cmp.Ordering.TheVariants.{Less, Equal, Greater}
use Rattle.std.specs.Ordering.{is_lt, is_gt, match_ordering}
use Rattle.std.specs.Cmp.{IsTotalOrder}
use Rattle.std.specs.List.{AllByRecursion}
use Rattle.std.specs.List.Sorted.{IsStrictlySortedBy}
use Rattle.std.specs.BTreeSet.{insert_key}

module _ {K : Type 0} {R : K → K → Ordering} (total : IsTotalOrder R) (exact : CmpEqualImpliesEq R) (k : K) where
  abbrev before : List K → List K
  before ks = filter (λ y. is_gt (R k y)) ks

  abbrev after : List K → List K
  after ks = filter (λ y. is_lt (R k y)) ks

  none_before : (ks : List K) → AllByRecursion (λ y. R k y ≡ Less) ks → before ks ≡ []
  none_before [] all = refl
  none_before (x ∷ ks) all = ap (λ o. cond (is_gt o) (x ∷ before ks) (before ks)) all.0 ∙ none_before ks all.1

  all_after : (ks : List K) → AllByRecursion (λ y. R k y ≡ Less) ks → after ks ≡ ks
  all_after [] all = refl
  all_after (x ∷ ks) all = ap (λ o. cond (is_lt o) (x ∷ after ks) (after ks)) all.0
      ∙ ap (λ l. x ∷ l) (all_after ks all.1)

  past : (x : K) (ks : List K) → R k x ≡ Less → AllByRecursion (λ y. R x y ≡ Less) ks →
      AllByRecursion (λ y. R k y ≡ Less) ks
  past x [] is all = tt
  past x (y ∷ ks) is all = (total.trans k x y is all.0, past x ks is all.1)

  alike : (x : K) (ks : List K) → R k x ≡ Equal → AllByRecursion (λ y. R x y ≡ Less) ks →
      AllByRecursion (λ y. R k y ≡ Less) ks
  alike x [] is all = tt
  alike x (y ∷ ks) is all = (total.congr k x y is ∙ all.0, alike x ks is all.1)

  placed_by : (o : Ordering) (x : K) (ks : List K) → R k x ≡ o → AllByRecursion (λ y. R x y ≡ Less) ks →
      insert_key R ks k ≡ before ks ++ k ∷ after ks → match_ordering o (k ∷ x ∷ ks) (x ∷ ks) (x ∷ insert_key R ks k)
      ≡ cond (is_gt o) (x ∷ before ks) (before ks) ++ k ∷ cond (is_lt o) (x ∷ after ks) (after ks)
  placed_by Less x ks is all rest =
      let later = past x ks is all in
      λ i. sym (none_before ks later) i ++ k ∷ x ∷ sym (all_after ks later) i
  placed_by Equal x ks is all rest =
      let later = alike x ks is all in
      λ i. sym (none_before ks later) i ++ sym (exact k x is) i ∷ sym (all_after ks later) i
  placed_by Greater x ks is all rest = ap (λ l. x ∷ l) rest

  -- a key put in stands between those before it and those after it
  pub placed_between : (ks : List K) → IsStrictlySortedBy R ks → insert_key R ks k ≡ before ks ++ k ∷ after ks
  unfolding IsStrictlySortedBy
  placed_between [] sorted = refl
  placed_between (x ∷ ks) sorted = placed_by (R k x) x ks refl sorted.0 (placed_between ks sorted.1)
