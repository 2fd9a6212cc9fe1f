-- What is said of the keys of a finite map, in order, is what is said of its entries.
use Rattle.std.proofs.Common.{◌≡◌, false, cond, T, List, [], ◌∷◌, map, Option, Some, None, is_some, refl, sym, ap, ◌∙◌}
use Rattle.std.proofs.lemmas.Bool.{false≢true}
use Rattle.std.specs.List.{AllByRecursion, filter_map, cons_option, list_any}
use Rattle.std.specs.List.Sorted.{IsStrictlySortedBy}
use Rattle.std.specs.declared.cmp.Ordering.{Ordering}
use Rattle.std.specs.declared.cmp.Ordering.TheVariants.{Less}
use Rattle.std.specs.Ordering.{is_eq, eq_by_cmp, ordering_reverse}
use Rattle.std.specs.Cmp.{IsTotalOrder, tied_itself}
use Rattle.std.specs.FinMap as finite
use Rattle.std.specs.FinMap.{FinMap, IsAntisymmetric}
use Rattle.std.specs.FinMap.Entries.{find, below_all, is_sorted}
use Rattle.prefix_table.proofs.Entries.{less_of, first, second}
use Rattle.cell_engine.proofs.Picks.{LeavesNoneOut, same_picks}

pub none_from : {V : Type 0} (o : Option V) → is_some o ≡ false → o ≡ None
none_from None e = refl
none_from (Some v) e = absurd (false≢true (sym e))

module _ {K X : Type 0} {R : K → K → Ordering} (o : IsTotalOrder R) where
  below_keys : (k : K) (es : List (K × X)) → T (below_all R k es) →
      AllByRecursion (λ y. R k y ≡ Less) (map (λ e. e.0) es)
  below_keys k [] h = tt
  below_keys k (e ∷ es) h = (less_of (R k e.0) (first _ _ h), below_keys k es (second _ _ h))

  -- the keys of sorted entries are sorted
  pub keys_sorted : (es : List (K × X)) → T (is_sorted R es) → IsStrictlySortedBy R (map (λ e. e.0) es)
  unfolding IsStrictlySortedBy
  keys_sorted [] h = tt
  keys_sorted (e ∷ es) h = (below_keys e.0 es (first _ _ h), keys_sorted es (second _ _ h))

  -- each of these is found at its key
  abbrev AreFound : List (K × X) → List (K × X) → Type 0
  AreFound all es = AllByRecursion (λ x. find R x.0 all ≡ Some x.1) es

  found_behind : (e : K × X) (all es : List (K × X)) → T (below_all R e.0 es) → AreFound all es → AreFound (e ∷ all) es
  found_behind e all [] below h = tt
  found_behind e all (x ∷ es) below h = (
    ap (λ r. cond (is_eq r) (Some e.1) (find R x.0 all)) (o.antisymm x.0 e.0
        ∙ ap ordering_reverse (less_of (R e.0 x.0) (first _ _ below))) ∙ h.0,
    found_behind e all es (second _ _ below) h.1,
  )

  all_found : (es : List (K × X)) → T (is_sorted R es) → AreFound es es
  all_found [] h = tt
  all_found (e ∷ es) h = (
    ap (λ r. cond (is_eq r) (Some e.1) (find R e.0 es)) (tied_itself o e.0),
    found_behind e es es (first _ _ h) (all_found es (second _ _ h)),
  )

  module _ (exact : IsAntisymmetric R) (m : FinMap R X) {V : Type 0} (F : K → Option V) (G : K × X →
      Option V) (at : (k : K) (x : X) → finite.get m k ≡ Some x → F k ≡ G (k, x)) where
    by_entry : (es : List (K × X)) → AreFound (finite.entries m) es → filter_map F (map (λ e. e.0) es) ≡ filter_map G es
    by_entry [] h = refl
    by_entry (e ∷ es) h = λ i. cons_option (at e.0 e.1 (finite.get-entries m e.0 ∙ h.0) i) (by_entry es h.1 i)

    not_key : (k : K) → list_any (eq_by_cmp R k) (finite.keys m) ≡ false → finite.get m k ≡ None
    not_key k off = none_from (finite.get m k) (finite.contains_key-keys m k ∙ off)

    -- where nothing is said of other keys, keys in order of which none is left out will do
    pub listed : ((k : K) → finite.get m k ≡ None → F k ≡ None) → (ks : List K) → IsStrictlySortedBy R ks →
        LeavesNoneOut o exact F ks → filter_map F ks ≡ filter_map G (finite.entries m)
    listed none ks sorted all =
        same_picks o exact F ks (finite.keys m) sorted (keys_sorted (finite.entries m) (finite.entries_sorted m)) all
        (λ k off. none k (not_key k off))
        ∙ by_entry (finite.entries m) (all_found (finite.entries m) (finite.entries_sorted m))
