-- Entries in the order of their keys: what is put in, taken out and kept by a filter.
use Rattle.std.proofs.Common.{◌≡◌, Bool, true, false, cond, List, [], ◌∷◌, filter, Option, Some, refl, sym, ap, ◌∙◌}
use Rattle.std.specs.declared.cmp.Ordering.{Ordering}
use Rattle.std.specs.declared.cmp.Ordering.TheVariants.{Less, Equal, Greater}
use Rattle.std.specs.Ordering.{match_ordering, is_eq, ordering_reverse}
use Rattle.std.specs.Cmp.{IsTotalOrder}
use Rattle.std.specs.List.{AllByRecursion}
use Rattle.std.specs.List.Sorted.{IsStrictlySortedBy}
use Rattle.std.specs.Map.{lookup, keys_of, remove_entry}
use Rattle.std.specs.BTreeMap.{insert_entry, is_at}
use Rattle.std.proofs.lemmas.Bool.{true≢false}
use Rattle.std.proofs.lemmas.Cmp.{alike_right}

module _ {K X : Type 0} (P : K → Type 0) where
  all_by_order : (r : Ordering) (k : K) (v : X) (e : K × X) (es more : List (K × X)) → P k → P e.0 →
      AllByRecursion P (keys_of es) → AllByRecursion P (keys_of more) →
      AllByRecursion P (keys_of (match_ordering r ((k, v) ∷ e ∷ es) ((e.0, v) ∷ es) (e ∷ more)))
  all_by_order Less k v e es more pk pe pes pm = (pk, (pe, pes))
  all_by_order Equal k v e es more pk pe pes pm = (pe, pes)
  all_by_order Greater k v e es more pk pe pes pm = (pe, pm)

  all_inserted : (cmp : K → K → Ordering) (k : K) (v : X) (es : List (K × X)) → P k → AllByRecursion P (keys_of es) →
      AllByRecursion P (keys_of (insert_entry cmp es k v))
  all_inserted cmp k v [] pk h = (pk, tt)
  all_inserted cmp k v (e ∷ es) pk h = all_by_order (cmp k e.0) k v e es (insert_entry cmp es k v) pk h.0 h.1
      (all_inserted cmp k v es pk h.1)

  all_removed : (test : K → Bool) (es : List (K × X)) → AllByRecursion P (keys_of es) →
      AllByRecursion P (keys_of (remove_entry test es))
  all_removed test [] h = h
  all_removed test (e ∷ es) h =
      elim (test e.0) as (λ b. AllByRecursion P (keys_of (cond b es (e ∷ remove_entry test es)))) [
        | true ↦ h.1
        | false ↦
            (h.0, all_removed test es h.1)
      ]

  all_filtered : (p : K × X → Bool) (es : List (K × X)) → AllByRecursion P (keys_of es) →
      AllByRecursion P (keys_of (filter p es))
  all_filtered p [] h = h
  all_filtered p (e ∷ es) h =
      elim (p e) as (λ b. AllByRecursion P (keys_of (cond b (e ∷ filter p es) (filter p es)))) [
        | true ↦
            (h.0, all_filtered p es h.1)
        | false ↦ all_filtered p es h.1
      ]

pub equal_from : (r : Ordering) → is_eq r ≡ true → r ≡ Equal
equal_from Less h = absurd (true≢false (sym h))
equal_from Equal h = refl
equal_from Greater h = absurd (true≢false (sym h))

pub all_past : {K : Type 0} {cmp : K → K → Ordering} → IsTotalOrder cmp → (k j : K) (ks : List K) → cmp k j ≡ Less →
    AllByRecursion (λ y. cmp j y ≡ Less) ks → AllByRecursion (λ y. cmp k y ≡ Less) ks
all_past o k j [] is h = tt
all_past o k j (x ∷ ks) is h = (o.trans k j x is h.0, all_past o k j ks is h.1)

module _ {K X : Type 0} {cmp : K → K → Ordering} (o : IsTotalOrder cmp) where
  abbrev Ordered : List (K × X) → Type 0
  Ordered es = IsStrictlySortedBy cmp (keys_of es)

  -- IN ORDER

  ordered_by_order : (r : Ordering) (k : K) (v : X) (e : K × X) (es more : List (K × X)) → cmp k e.0 ≡ r →
      Ordered (e ∷ es) → (cmp e.0 k ≡ Less → AllByRecursion (λ y. cmp e.0 y ≡ Less) (keys_of more)) → Ordered more →
      Ordered (match_ordering r ((k, v) ∷ e ∷ es) ((e.0, v) ∷ es) (e ∷ more))
  unfolding IsStrictlySortedBy
  ordered_by_order Less k v e es more is h past more_ordered = ((is, all_past o k e.0 (keys_of es) is h.0), h)
  ordered_by_order Equal k v e es more is h past more_ordered = h
  ordered_by_order Greater k v e es more is h past more_ordered =
      (past (o.antisymm e.0 k ∙ ap ordering_reverse is), more_ordered)

  -- an entry put in keeps the order
  pub ordered_inserted : (k : K) (v : X) (es : List (K × X)) → Ordered es → Ordered (insert_entry cmp es k v)
  unfolding IsStrictlySortedBy
  ordered_inserted k v [] h = (tt, tt)
  ordered_inserted k v (e ∷ es) h = ordered_by_order (cmp k e.0) k v e es (insert_entry cmp es k v) refl h
      (λ past. all_inserted (λ y. cmp e.0 y ≡ Less) cmp k v es past h.0) (ordered_inserted k v es h.1)

  -- an entry taken out keeps the order
  pub ordered_removed : (test : K → Bool) (es : List (K × X)) → Ordered es → Ordered (remove_entry test es)
  unfolding IsStrictlySortedBy
  ordered_removed test [] h = h
  ordered_removed test (e ∷ es) h = elim (test e.0) as (λ b. Ordered (cond b es (e ∷ remove_entry test es))) [
    | true ↦
        h.1
    | false ↦ (all_removed (λ y. cmp e.0 y ≡ Less) test es h.0, ordered_removed test es h.1)
  ]

  -- a filter keeps the order
  pub ordered_filtered : (p : K × X → Bool) (es : List (K × X)) → Ordered es → Ordered (filter p es)
  unfolding IsStrictlySortedBy
  ordered_filtered p [] h = h
  ordered_filtered p (e ∷ es) h = elim (p e) as (λ b. Ordered (cond b (e ∷ filter p es) (filter p es))) [
    | true ↦
        (all_filtered (λ y. cmp e.0 y ≡ Less) p es h.0, ordered_filtered p es h.1)
    | false ↦ ordered_filtered p es h.1
  ]

  -- LOOK-UPS

  swapped : (s t : Bool) (v w : Option X) (l : Option X) → (t ≡ true → s ≡ false) →
      cond s w (cond t v l) ≡ cond t v (cond s w l)
  swapped s true v w l apart = rw (apart refl) refl
  swapped s false v w l apart = refl

  looked_by_order : (r : Ordering) (q k : K) (v : X) (e : K × X) (es more : List (K × X)) → cmp k e.0 ≡ r →
      lookup (is_at (cmp q)) more ≡ cond (is_at (cmp q) k) (Some v) (lookup (is_at (cmp q)) es) →
      lookup (is_at (cmp q)) (match_ordering r ((k, v) ∷ e ∷ es) ((e.0, v) ∷ es) (e ∷ more))
      ≡ cond (is_at (cmp q) k) (Some v) (lookup (is_at (cmp q)) (e ∷ es))
  looked_by_order Less q k v e es more is rest = refl
  looked_by_order Equal q k v e es more is rest =
      let same : is_eq (cmp q k) ≡ is_eq (cmp q e.0) = ap is_eq (alike_right o k e.0 q is) in
      rw same (elim (is_eq (cmp q e.0)) as (λ b. cond b (Some v) (lookup (is_at (cmp q)) es)
      ≡ cond b (Some v) (cond b (Some e.1) (lookup (is_at (cmp q)) es))) [ true ↦ refl | false ↦ refl ])
  looked_by_order Greater q k v e es more is rest =
      ap (cond (is_eq (cmp q e.0)) (Some e.1)) rest
      ∙ swapped (is_eq (cmp q e.0)) (is_eq (cmp q k)) (Some v) (Some e.1) (lookup (is_at (cmp q)) es)
      (λ h. ap is_eq (o.congr q k e.0 (equal_from (cmp q k) h) ∙ is))

  -- what stands at a key once an entry is put in
  pub lookup_inserted : (q k : K) (v : X) (es : List (K × X)) → lookup (is_at (cmp q)) (insert_entry cmp es k v)
      ≡ cond (is_at (cmp q) k) (Some v) (lookup (is_at (cmp q)) es)
  lookup_inserted q k v [] = refl
  lookup_inserted q k v (e ∷ es) = looked_by_order (cmp k e.0) q k v e es (insert_entry cmp es k v) refl
      (lookup_inserted q k v es)
