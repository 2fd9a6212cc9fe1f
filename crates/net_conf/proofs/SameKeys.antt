-- Two lists of keys in order that have the same keys are one.
use Rattle.std.proofs.Common.{◌≡◌, Bool, true, false, cond, ◌||◌, List, [], ◌∷◌, refl, sym, ap, ◌∙◌, subst}
use Rattle.std.specs.declared.cmp.Ordering.{Ordering}
use Rattle.std.specs.declared.cmp.Ordering.TheVariants.{Less, Equal, Greater}
use Rattle.std.specs.Ordering.{is_eq, ordering_reverse}
use Rattle.std.specs.Cmp.{IsTotalOrder, tied_itself}
use Rattle.std.specs.List.{AllByRecursion, list_any}
use Rattle.std.specs.List.Sorted.{IsStrictlySortedBy}
use Rattle.std.specs.Set.{remove_key}
use Rattle.std.specs.BTreeMap.{is_at}
use Rattle.std.proofs.lemmas.Bool.{true≢false}
use Rattle.std.proofs.lemmas.Map.Lookups.{CmpEqualImpliesEq}
use Rattle.net_conf.proofs.KeptTrees.{equal_when}

module _ {K : Type 0} (cmp : K → K → Ordering) (total : IsTotalOrder cmp) (exact : CmpEqualImpliesEq cmp) where
  abbrev has : List K → K → Bool
  has ks k = list_any (is_at (cmp k)) ks

  itself : (k : K) → is_at (cmp k) k ≡ true
  itself k = ap is_eq (tied_itself total k)

  -- a key below all others is none of them
  below_all : (k : K) (ks : List K) → AllByRecursion (λ y. cmp k y ≡ Less) ks → has ks k ≡ false
  below_all k [] all = refl
  below_all k (x ∷ ks) all = ap (λ o. is_eq o || has ks k) all.0 ∙ below_all k ks all.1

  all_past : (k x : K) (ks : List K) → cmp k x ≡ Less → AllByRecursion (λ y. cmp x y ≡ Less) ks →
      AllByRecursion (λ y. cmp k y ≡ Less) ks
  all_past k x [] is all = tt
  all_past k x (y ∷ ks) is all = (total.trans k x y is all.0, all_past k x ks is all.1)

  pub below_first : (k x : K) (ks : List K) → cmp k x ≡ Less → IsStrictlySortedBy cmp (x ∷ ks) → has (x ∷ ks) k ≡ false
  unfolding IsStrictlySortedBy
  below_first k x ks is sorted = below_all k (x ∷ ks) (is, all_past k x ks is sorted.0)

  first_there : (x : K) (ks : List K) → has (x ∷ ks) x ≡ true
  first_there x ks = ap (λ t. t || has ks x) (itself x)

  -- behind the same first key too
  behind : (x : K) (ks ls : List K) → IsStrictlySortedBy cmp (x ∷ ks) → IsStrictlySortedBy cmp (x ∷ ls) →
      ((k : K) → has (x ∷ ks) k ≡ has (x ∷ ls) k) → (k : K) → has ks k ≡ has ls k
  unfolding IsStrictlySortedBy
  behind x ks ls first second same k = by (is_at (cmp k) x) refl (same k)
    where
      by : (t : Bool) → is_at (cmp k) x ≡ t → (is_at (cmp k) x || has ks k) ≡ (is_at (cmp k) x || has ls k) →
          has ks k ≡ has ls k
      by true is both =
          ap (has ks) (exact k x (equal_when (cmp k x) is)) ∙ below_all x ks first.0
          ∙ sym (ap (has ls) (exact k x (equal_when (cmp k x) is)) ∙ below_all x ls second.0)
      by false is both = ap (λ t. t || has ks k) (sym is) ∙ both ∙ ap (λ t. t || has ls k) is

  pub same_keys : (ks ls : List K) → IsStrictlySortedBy cmp ks → IsStrictlySortedBy cmp ls →
      ((k : K) → list_any (is_at (cmp k)) ks ≡ list_any (is_at (cmp k)) ls) → ks ≡ ls
  unfolding IsStrictlySortedBy
  same_keys [] [] first second same = refl
  same_keys [] (y ∷ ls) first second same = absurd (true≢false (sym (first_there y ls) ∙ sym (same y)))
  same_keys (x ∷ ks) [] first second same = absurd (true≢false (sym (first_there x ks) ∙ same x))
  same_keys (x ∷ ks) (y ∷ ls) first second same = by (cmp x y) refl (λ s t u. same_keys ks ls s t u)
    where
      by : (o : Ordering) → cmp x y ≡ o →
          (IsStrictlySortedBy cmp ks → IsStrictlySortedBy cmp ls → ((k : K) → has ks k ≡ has ls k) → ks ≡ ls) →
          x ∷ ks ≡ y ∷ ls
      by Less is rest = absurd (true≢false (sym (first_there x ks) ∙ same x ∙ below_first x y ls is second))
      by Equal is rest = one (exact x y is) second same
        where
          one : x ≡ y → IsStrictlySortedBy cmp (y ∷ ls) → ((k : K) → has (x ∷ ks) k ≡ has (y ∷ ls) k) → x ∷ ks ≡ y ∷ ls
          one e sorted alike =
              let sorted' : IsStrictlySortedBy cmp (x ∷ ls) =
              subst (λ z. IsStrictlySortedBy cmp (z ∷ ls)) (sym e) sorted in
              let alike' : (k : K) → has (x ∷ ks) k ≡ has (x ∷ ls) k = λ k. alike k
              ∙ ap (λ z. has (z ∷ ls) k) (sym e) in
              ap (λ zs. x ∷ zs) (rest first.1 sorted'.1 (behind x ks ls first sorted' alike')) ∙ ap (λ z. z ∷ ls) e
      by Greater is rest = absurd (true≢false (sym (first_there y ls) ∙ sym (same y)
          ∙ below_first y x ks (total.antisymm y x ∙ ap ordering_reverse is) first))

  -- a key that is taken out is there no more
  pub taken_out : (k : K) (ks : List K) → IsStrictlySortedBy cmp ks →
      list_any (is_at (cmp k)) (remove_key (is_at (cmp k)) ks) ≡ false
  unfolding IsStrictlySortedBy
  taken_out k [] sorted = refl
  taken_out k (x ∷ ks) sorted = by (is_at (cmp k) x) refl (taken_out k ks sorted.1)
    where
      by : (t : Bool) → is_at (cmp k) x ≡ t → has (remove_key (is_at (cmp k)) ks) k ≡ false →
          has (cond t ks (x ∷ remove_key (is_at (cmp k)) ks)) k ≡ false
      by true is rest = ap (has ks) (exact k x (equal_when (cmp k x) is)) ∙ below_all x ks sorted.0
      by false is rest = ap (λ t. t || has (remove_key (is_at (cmp k)) ks) k) is ∙ rest
