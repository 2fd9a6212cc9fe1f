-- What a function picks from lists of keys in order: it is the same from any two that leave nothing out.
use Rattle.std.proofs.Common.{◌≡◌, Bool, true, false, cond, ◌&&◌, ◌||◌, T, List, [], ◌∷◌, ◌++◌, map, fold, Option, Some, None, option_map, refl, sym, ap, subst, ◌∙◌}
use Rattle.std.specs.List.{AllByRecursion, list_any, filter_map, cons_option}
use Rattle.std.specs.List.Sorted.{IsStrictlySortedBy}
use Rattle.std.specs.BTreeSet.{insert_key}
use Rattle.std.specs.declared.cmp.Ordering.{Ordering}
use Rattle.std.specs.declared.cmp.Ordering.TheVariants.{Less, Equal, Greater}
use Rattle.std.specs.Ordering.{is_lt, is_eq, eq_by_cmp, match_ordering, ordering_reverse}
use Rattle.std.specs.Cmp.{IsTotalOrder}
use Rattle.std.specs.FinMap.{IsAntisymmetric}
use Rattle.std.specs.FinMap.Entries.{find, below_all, is_sorted, same_entries}
use Rattle.std.proofs.lemmas.Bool.{true≢false}

both : (a b : Bool) → T a → T b → T (a && b)
both true b p q = q
both false b p q = p

pub is_equal : (o : Ordering) → is_eq o ≡ true → o ≡ Equal
is_equal Less h = absurd (true≢false (sym h))
is_equal Equal h = refl
is_equal Greater h = absurd (true≢false (sym h))

module _ {K V : Type 0} {R : K → K → Ordering} (o : IsTotalOrder R) (same : IsAntisymmetric R) (F : K → Option V) where
  -- nothing is picked at a key that is left out
  abbrev pub LeavesNoneOut : List K → Type 0
  LeavesNoneOut ks = (q : K) → list_any (eq_by_cmp R q) ks ≡ false → F q ≡ None

  -- what is picked, by key
  abbrev picked : List K → List (K × V)
  picked ks = filter_map (λ k. option_map (λ v. (k, v)) (F k)) ks

  below_picked : (x : K) (ks : List K) → AllByRecursion (λ y. R x y ≡ Less) ks → T (below_all R x (picked ks))
  below_picked x [] h = tt
  below_picked x (k ∷ ks) h =
      elim (F k) as (λ f. T (below_all R x (cons_option (option_map (λ v. (k, v)) f) (picked ks)))) [
        | None ↦ below_picked x ks h.1
        | Some v ↦ both _ _ (subst (λ r. T (is_lt r)) (sym h.0) tt) (below_picked x ks h.1)
      ]

  sorted_picked : (ks : List K) → IsStrictlySortedBy R ks → T (is_sorted R (picked ks))
  unfolding IsStrictlySortedBy
  sorted_picked [] h = tt
  sorted_picked (k ∷ ks) h =
      elim (F k) as (λ f. T (is_sorted R (cons_option (option_map (λ v. (k, v)) f) (picked ks)))) [
        | None ↦ sorted_picked ks h.1
        | Some v ↦ both _ _ (below_picked k ks h.0) (sorted_picked ks h.1)
      ]

  abbrev Finds : K → List K → Type 0
  Finds q ks = find R q (picked ks) ≡ cond (list_any (eq_by_cmp R q) ks) (F q) None

  none_either : (b : Bool) → ◌≡◌ {A = Option V} (cond b None None) None
  none_either true = refl
  none_either false = refl

  found_by : (q k : K) (ks : List K) (t : Bool) (f : Option V) → eq_by_cmp R q k ≡ t → F k ≡ f →
      Finds q ks → Finds q (k ∷ ks)
  found_by q k ks true None t is rest =
      let none : F q ≡ None = ap F (same q k (is_equal (R q k) t)) ∙ is in
      ap (λ f. find R q (cons_option (option_map (λ v. (k, v)) f) (picked ks))) is
      ∙ rest
      ∙ (λ i. cond (list_any (eq_by_cmp R q) ks) (none i) None)
      ∙ none_either (list_any (eq_by_cmp R q) ks)
      ∙ sym none
      ∙ ap (λ b. cond (b || list_any (eq_by_cmp R q) ks) (F q) None) (sym t)
  found_by q k ks true (Some v) t is rest =
      ap (λ f. find R q (cons_option (option_map (λ v. (k, v)) f) (picked ks))) is
      ∙ ap (λ b. cond b (Some v) (find R q (picked ks))) t
      ∙ sym (ap F (same q k (is_equal (R q k) t)) ∙ is)
      ∙ ap (λ b. cond (b || list_any (eq_by_cmp R q) ks) (F q) None) (sym t)
  found_by q k ks false None t is rest =
      ap (λ f. find R q (cons_option (option_map (λ v. (k, v)) f) (picked ks))) is
      ∙ rest
      ∙ ap (λ b. cond (b || list_any (eq_by_cmp R q) ks) (F q) None) (sym t)
  found_by q k ks false (Some v) t is rest =
      ap (λ f. find R q (cons_option (option_map (λ v. (k, v)) f) (picked ks))) is
      ∙ ap (λ b. cond b (Some v) (find R q (picked ks))) t
      ∙ rest
      ∙ ap (λ b. cond (b || list_any (eq_by_cmp R q) ks) (F q) None) (sym t)

  find_picked : (q : K) (ks : List K) → Finds q ks
  find_picked q [] = refl
  find_picked q (k ∷ ks) = found_by q k ks (eq_by_cmp R q k) (F k) refl refl (find_picked q ks)

  values_picked : (ks : List K) → map (λ e. e.1) (picked ks) ≡ filter_map F ks
  values_picked [] = refl
  values_picked (k ∷ ks) =
      elim (F k) as (λ f. map (λ e. e.1) (cons_option (option_map (λ v. (k, v)) f) (picked ks))
      ≡ cons_option f (filter_map F ks)) [
        | None ↦ values_picked ks
        | Some v ↦ ap (λ l. v ∷ l) (values_picked ks)
      ]

  all_found : (ks : List K) → LeavesNoneOut ks → (q : K) → find R q (picked ks) ≡ F q
  all_found ks covers q = find_picked q ks ∙ by (list_any (eq_by_cmp R q) ks) refl where
    by : (b : Bool) → list_any (eq_by_cmp R q) ks ≡ b → cond (list_any (eq_by_cmp R q) ks) (F q) None ≡ F q
    by true h = ap (λ b. cond b (F q) None) h
    by false h = ap (λ b. cond b (F q) None) h ∙ sym (covers q h)

  -- two lists in order that leave nothing out give the same
  pub same_picks : (ks ls : List K) → IsStrictlySortedBy R ks → IsStrictlySortedBy R ls → LeavesNoneOut ks →
      LeavesNoneOut ls → filter_map F ks ≡ filter_map F ls
  same_picks ks ls g h a b =
      sym (values_picked ks)
      ∙ ap (map (λ e. e.1)) (same_entries R o same (picked ks) (picked ls) (sorted_picked ks g) (sorted_picked ls h)
      (λ q. all_found ks a q ∙ sym (all_found ls b q)))
      ∙ values_picked ls

-- KEYS PUT IN ORDER

or_true : (b c : Bool) → c ≡ true → (b || c) ≡ true
or_true true c h = refl
or_true false c h = h

module _ {K : Type 0} {R : K → K → Ordering} (o : IsTotalOrder R) (same : IsAntisymmetric R) where
  all_inserted : (P : K → Type 0) (k : K) (ks : List K) → P k → AllByRecursion P ks →
      AllByRecursion P (insert_key R ks k)
  all_inserted P k [] p h = (p, tt)
  all_inserted P k (x ∷ ks) p h =
      elim (R k x) as (λ r. AllByRecursion P (match_ordering r (k ∷ x ∷ ks) (x ∷ ks) (x ∷ insert_key R ks k))) [
        | Less ↦ (p, h)
        | Equal ↦ h
        | Greater ↦ (h.0, all_inserted P k ks p h.1)
      ]

  all_past : (k x : K) (ks : List K) → R k x ≡ Less → AllByRecursion (λ y. R x y ≡ Less) ks →
      AllByRecursion (λ y. R k y ≡ Less) ks
  all_past k x [] p h = tt
  all_past k x (y ∷ ks) p h = (o.trans k x y p h.0, all_past k x ks p h.1)

  -- a key put in keeps the order
  pub sorted_inserted : (k : K) (ks : List K) → IsStrictlySortedBy R ks → IsStrictlySortedBy R (insert_key R ks k)
  unfolding IsStrictlySortedBy
  sorted_inserted k [] h = (tt, tt)
  sorted_inserted k (x ∷ ks) h =
      elim (R k x) as (λ r. R k x ≡ r →
      IsStrictlySortedBy R (match_ordering r (k ∷ x ∷ ks) (x ∷ ks) (x ∷ insert_key R ks k))) [
        | Less ↦ λ p. ((p, all_past k x ks p h.0), h)
        | Equal ↦ λ p. h
        | Greater ↦ λ p. (
          all_inserted (λ y. R x y ≡ Less) k ks (o.antisymm x k ∙ ap ordering_reverse p) h.0,
          sorted_inserted k ks h.1,
        )
      ] refl

  abbrev gathered : List K → List K → List K
  gathered xs ks = fold (λ qs k. insert_key R qs k) xs ks

  sorted_from : (ks xs : List K) → IsStrictlySortedBy R xs → IsStrictlySortedBy R (gathered xs ks)
  sorted_from [] xs h = h
  sorted_from (k ∷ ks) xs h = sorted_from ks (insert_key R xs k) (sorted_inserted k xs h)

  -- keys that were put in order are in order
  pub sorted_gathered : (ks : List K) → IsStrictlySortedBy R (gathered [] ks)
  unfolding IsStrictlySortedBy
  sorted_gathered ks = sorted_from ks [] tt

  module _ (q : K) where
    abbrev has : List K → Bool
    has ks = list_any (eq_by_cmp R q) ks

    kept : (k : K) (xs : List K) → has xs ≡ true → has (insert_key R xs k) ≡ true
    kept k [] h = absurd (true≢false (sym h))
    kept k (x ∷ xs) h =
        elim (R k x) as (λ r. has (match_ordering r (k ∷ x ∷ xs) (x ∷ xs) (x ∷ insert_key R xs k)) ≡ true) [
          | Less ↦ or_true (eq_by_cmp R q k) _ h
          | Equal ↦ h
          | Greater ↦ elim (eq_by_cmp R q x) as (λ b. (b || has xs) ≡ true →
              (b || has (insert_key R xs k)) ≡ true) [ true ↦ λ _. refl | false ↦ λ h. kept k xs h ] h
        ]

    new : (k : K) (xs : List K) → eq_by_cmp R q k ≡ true → has (insert_key R xs k) ≡ true
    new k [] h = ap (λ b. b || false) h
    new k (x ∷ xs) h =
        elim (R k x) as (λ r. R k x ≡ r → has (match_ordering r (k ∷ x ∷ xs) (x ∷ xs) (x ∷ insert_key R xs k)) ≡ true) [
          | Less ↦ λ p. ap (λ b. b || has (x ∷ xs)) h
          | Equal ↦ λ p. ap (λ b. b || has xs) (ap (eq_by_cmp R q) (sym (same k x p)) ∙ h)
          | Greater ↦ λ p. or_true (eq_by_cmp R q x) _ (new k xs h)
        ] refl

    kept_in : (ks xs : List K) → has xs ≡ true → has (gathered xs ks) ≡ true
    kept_in [] xs h = h
    kept_in (k ∷ ks) xs h = kept_in ks (insert_key R xs k) (kept k xs h)

    in_gathered : (ks xs : List K) → has ks ≡ true → has (gathered xs ks) ≡ true
    in_gathered [] xs h = absurd (true≢false (sym h))
    in_gathered (k ∷ ks) xs h =
        elim (eq_by_cmp R q k) as (λ b. eq_by_cmp R q k ≡ b → (b || has ks) ≡ true →
        has (gathered (insert_key R xs k) ks) ≡ true) [
          | true ↦ λ t _. kept_in ks (insert_key R xs k) (new k xs t)
          | false ↦ λ t h. in_gathered ks (insert_key R xs k) h
        ] refl h

    apart : (xs ys : List K) → has (xs ++ ys) ≡ false → (has xs ≡ false) × (has ys ≡ false)
    apart [] ys h = (refl, h)
    apart (x ∷ xs) ys h = elim (eq_by_cmp R q x) as (λ b. (b || has (xs ++ ys)) ≡ false → ((b || has xs) ≡ false)
        × (has ys ≡ false)) [ true ↦ λ h. absurd (true≢false h) | false ↦ λ h. apart xs ys h ] h

    -- a key that is not among those put in order is in neither list
    pub not_gathered : (xs ys : List K) → has (gathered [] (xs ++ ys)) ≡ false → (has xs ≡ false) × (has ys ≡ false)
    not_gathered xs ys h = apart xs ys (by (has (xs ++ ys)) refl) where
      by : (b : Bool) → has (xs ++ ys) ≡ b → has (xs ++ ys) ≡ false
      by true is = absurd (true≢false (sym (in_gathered (xs ++ ys) [] is) ∙ h))
      by false is = is
