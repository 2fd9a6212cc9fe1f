-- Elements in the order of their keys: where a search by halves ends.
use Rattle.std.proofs.Common.{◌≡◌, ℕ, zero, suc, ◌<◌, ◌≤◌, true, false, cond, ◌||◌, List, [], ◌∷◌, length, get_or, Some, None, unwrap_or, refl, sym, ap, subst, ◌∙◌, arith}
use Rattle.std.specs.Prelude.{slice_get, slice_index_or, option_map}
use Rattle.std.specs.List.{AllByRecursion, list_any}
use Rattle.std.specs.List.Sorted.{IsStrictlySortedBy, IsPartitionedBy, IsPartitionPoint}
use Rattle.std.specs.declared.cmp.Ordering.{Ordering}
use Rattle.std.specs.declared.cmp.Ordering.TheVariants.{Less, Equal, Greater}
use Rattle.std.specs.Ordering.{is_eq, is_gt, ordering_reverse, match_ordering}
use Rattle.std.specs.Cmp.{IsTotalOrder}
use Rattle.std.specs.Map.{keys_of, lookup, remove_entry}
use Rattle.std.specs.Set.{remove_key}
use Rattle.std.specs.BTreeMap.{insert_entry, is_at}
use Rattle.std.specs.BTreeSet.{insert_key}
use Rattle.std.proofs.lemmas.Bool.{ltb-true, ltb-false}
use Rattle.std.proofs.Math.Dec.{ltb}
use Rattle.std.proofs.lemmas.Option.{slice_get_read, slice_get_past, get_or_from_slice_get, slice_get_within}
use Rattle.shared_map.specs.Positions.{IsAt, IsFor, IsKeyAt, IsKeyFor}

less_from : (o : Ordering) → is_gt o ≡ false → is_eq o ≡ false → o ≡ Less
less_from Less g e = refl
less_from Equal g e = cc
less_from Greater g e = cc

equal_from : (o : Ordering) → is_eq o ≡ true → o ≡ Equal
equal_from Less e = cc
equal_from Equal e = refl
equal_from Greater e = cc

greater_from : (o : Ordering) → is_gt o ≡ true → o ≡ Greater
greater_from Less e = cc
greater_from Equal e = cc
greater_from Greater e = refl

-- what a read of a slice tells
pub read_some : {X : Type 0} (xs : List X) (i : ℕ) (x : X) → true ≡ ltb i (length xs) → x ≡ get_or xs i x →
    slice_get xs i ≡ Some x
read_some xs i x within is = slice_get_read xs (length xs) i x refl (ltb-true i (length xs) (sym within)) is

pub read_none : {X : Type 0} (xs : List X) (i : ℕ) → false ≡ ltb i (length xs) → slice_get xs i ≡ None
read_none xs i past = slice_get_past xs i (ltb-false i (length xs) (sym past))

module _ {K : Type 0} {cmp : K → K → Ordering} (total : IsTotalOrder cmp) where
  -- a key above one is above those below it
  falls : (q x y : K) → cmp x y ≡ Less → is_gt (cmp q y) ≡ true → is_gt (cmp q x) ≡ true
  falls q x y less is =
      let above : cmp y q ≡ Less = total.antisymm y q ∙ ap ordering_reverse (greater_from (cmp q y) is) in
      ap is_gt (total.antisymm q x ∙ ap ordering_reverse (total.trans x y q less above))

  module _ {X : Type 0} (key : X → K) where
    -- each is below those after it
    abbrev pub Ascends : List X → Type 0
    Ascends [] = Unit {0}
    Ascends (x ∷ xs) = AllByRecursion (λ y. cmp (key x) (key y) ≡ Less) xs × Ascends xs

    below_at : (x : X) (xs : List X) (j : ℕ) (d : X) → AllByRecursion (λ y. cmp (key x) (key y) ≡ Less) xs →
        j < length xs → cmp (key x) (key (slice_index_or xs j d)) ≡ Less
    below_at x [] j d h lt = absurd (omega arith)
    below_at x (y ∷ ys) zero d h lt = h.0
    below_at x (y ∷ ys) (suc j) d h lt = below_at x ys j d h.1 (omega arith)

    pub parted : (q : K) (xs : List X) → Ascends xs → IsPartitionedBy (λ x. is_gt (cmp q (key x))) xs
    parted q [] h i j d le lt is = absurd (omega arith)
    parted q (x ∷ xs) h zero zero d le lt is = is
    parted q (x ∷ xs) h zero (suc j) d le lt is =
        falls q (key x) (key (slice_index_or xs j d)) (below_at x xs j d h.0 (omega arith)) is
    parted q (x ∷ xs) h (suc i) zero d le lt is = absurd (omega arith)
    parted q (x ∷ xs) h (suc i) (suc j) d le lt is = parted q xs h.1 i j d (omega arith) (omega arith) is

    -- the keys of the elements before the position are below the key
    abbrev pub AreBelow : List X → K → ℕ → Type 0
    AreBelow xs q i = (j : ℕ) (d : X) → j < i → cmp q (key (slice_index_or xs j d)) ≡ Greater

    pub are_below : (xs : List X) (q : K) (i : ℕ) →
        IsPartitionPoint (λ x. is_gt (cmp q (key x)) ≡ true) (λ x. is_gt (cmp q (key x)) ≡ false) xs i → AreBelow xs q i
    are_below xs q i at j d lt = greater_from _ (at.0 j d (omega arith) lt)

    pub here_less : (xs : List X) (q : K) (i : ℕ) (x : X) →
        IsPartitionPoint (λ y. is_gt (cmp q (key y)) ≡ true) (λ y. is_gt (cmp q (key y)) ≡ false) xs i →
        slice_get xs i ≡ Some x → is_eq (cmp q (key x)) ≡ false → cmp q (key x) ≡ Less
    here_less xs q i x at is other =
        let here : is_gt (cmp q (key x)) ≡ false =
        ap (λ y. is_gt (cmp q (key y))) (sym (get_or_from_slice_get xs i x x is))
        ∙ at.1 i x (omega arith) (slice_get_within xs i x is) in
        less_from _ here other

    all_past : (q : K) (x : X) (xs : List X) → cmp q (key x) ≡ Less →
        AllByRecursion (λ y. cmp (key x) (key y) ≡ Less) xs → AllByRecursion (λ y. cmp q (key y) ≡ Less) xs
    all_past q x [] p h = tt
    all_past q x (y ∷ ys) p h = (total.trans q (key x) (key y) p h.0, all_past q x ys p h.1)

  -- ENTRIES

  module _ {V : Type 0} where
    first_of : K × V → K
    first_of e = e.0

    all_keys : (P : K → Type 0) (es : List (K × V)) → AllByRecursion P (keys_of es) → AllByRecursion (λ e. P e.0) es
    all_keys P [] h = tt
    all_keys P (e ∷ es) h = (h.0, all_keys P es h.1)

    pub ascend : (es : List (K × V)) → IsStrictlySortedBy cmp (keys_of es) → Ascends (λ e. e.0) es
    unfolding IsStrictlySortedBy
    ascend [] h = tt
    ascend (e ∷ es) h = (all_keys (λ y. cmp e.0 y ≡ Less) es h.0, ascend es h.1)

    at_first : (e : K × V) (es : List (K × V)) (q : K) → cmp q e.0 ≡ Equal → IsAt cmp (e ∷ es) q 0
    at_first e es q p = record {
      in_range = omega arith;
      written = λ v x h. ap (λ y. ((unwrap_or y e).0, v) ∷ es) (sym h)
          ∙ ap (λ r. match_ordering r ((q, v) ∷ e ∷ es) ((e.0, v) ∷ es) (e ∷ insert_entry cmp es q v)) (sym p);
      removed = ap (λ r. cond (is_eq r) es (e ∷ remove_entry (is_at (cmp q)) es)) (sym p);
      value = λ x h. ap (λ r. cond (is_eq r) (Some e.1) (lookup (is_at (cmp q)) es)) p
          ∙ ap (option_map (λ (y : K × V). y.1)) h;
    }

    at_later : (e : K × V) (es : List (K × V)) (q : K) (i : ℕ) → cmp q e.0 ≡ Greater → IsAt cmp es q i →
        IsAt cmp (e ∷ es) q (suc i)
    at_later e es q i p is = record {
      in_range = omega (arith, is.in_range);
      written = λ v x h. ap (λ r. e ∷ r) (is.written v x h)
          ∙ ap (λ r. match_ordering r ((q, v) ∷ e ∷ es) ((e.0, v) ∷ es) (e ∷ insert_entry cmp es q v)) (sym p);
      removed = ap (λ r. e ∷ r) is.removed ∙ ap (λ r. cond (is_eq r) es (e ∷ remove_entry (is_at (cmp q)) es)) (sym p);
      value = λ x h. ap (λ r. cond (is_eq r) (Some e.1) (lookup (is_at (cmp q)) es)) p ∙ is.value x h;
    }

    none_there : (q : K) (es : List (K × V)) → AllByRecursion (λ e. cmp q e.0 ≡ Less) es →
        lookup (is_at (cmp q)) es ≡ None
    none_there q [] h = refl
    none_there q (e ∷ es) h = ap (λ r. cond (is_eq r) (Some e.1) (lookup (is_at (cmp q)) es)) h.0 ∙ none_there q es h.1

    none_removed : (q : K) (es : List (K × V)) → AllByRecursion (λ e. cmp q e.0 ≡ Less) es →
        es ≡ remove_entry (is_at (cmp q)) es
    none_removed q [] h = refl
    none_removed q (e ∷ es) h = ap (λ r. e ∷ r) (none_removed q es h.1)
        ∙ ap (λ r. cond (is_eq r) es (e ∷ remove_entry (is_at (cmp q)) es)) (sym h.0)

    for_end : (q : K) → IsFor cmp {V = V} [] q 0
    for_end q = record { in_range = omega arith; added = λ v. refl; absent = refl; kept = refl }

    for_first : (e : K × V) (es : List (K × V)) (q : K) → cmp q e.0 ≡ Less → Ascends (λ x. x.0) (e ∷ es) →
        IsFor cmp (e ∷ es) q 0
    for_first e es q p h =
        let past : AllByRecursion (λ x. cmp q x.0 ≡ Less) (e ∷ es) = (p, all_past (λ x. x.0) q e es p h.0) in
        record {
          in_range = omega arith;
          added = λ v. ap (λ r. match_ordering r ((q, v) ∷ e ∷ es) ((e.0, v) ∷ es) (e ∷ insert_entry cmp es q v))
              (sym p);
          absent = none_there q (e ∷ es) past;
          kept = none_removed q (e ∷ es) past;
        }

    for_later : (e : K × V) (es : List (K × V)) (q : K) (i : ℕ) → cmp q e.0 ≡ Greater → IsFor cmp es q i →
        IsFor cmp (e ∷ es) q (suc i)
    for_later e es q i p is = record {
      in_range = omega (arith, is.in_range);
      added = λ v. ap (λ r. e ∷ r) (is.added v)
          ∙ ap (λ r. match_ordering r ((q, v) ∷ e ∷ es) ((e.0, v) ∷ es) (e ∷ insert_entry cmp es q v)) (sym p);
      absent = ap (λ r. cond (is_eq r) (Some e.1) (lookup (is_at (cmp q)) es)) p ∙ is.absent;
      kept = ap (λ r. e ∷ r) is.kept ∙ ap (λ r. cond (is_eq r) es (e ∷ remove_entry (is_at (cmp q)) es)) (sym p);
    }

    pub found : (es : List (K × V)) (q : K) (i : ℕ) (e : K × V) → AreBelow (λ x. x.0) es q i → slice_get es i ≡ Some e →
        is_eq (cmp q e.0) ≡ true → IsAt cmp es q i
    found [] q i e below is same = cc
    found (x ∷ es) q zero e below is same = at_first x es q (ap (λ o. cmp q (unwrap_or o e).0) is ∙ equal_from _ same)
    found (x ∷ es) q (suc i) e below is same =
        at_later x es q i (below 0 x (omega arith)) (found es q i e (λ j d lt. below (suc j) d (omega arith)) is same)

    pub gap_end : (es : List (K × V)) (q : K) (i : ℕ) → AreBelow (λ x. x.0) es q i → slice_get es i ≡ None →
        i ≤ length es → IsFor cmp es q i
    gap_end [] q i below is le = let z : 0 ≡ i = omega arith in subst (IsFor cmp [] q) z (for_end q)
    gap_end (x ∷ es) q zero below is le = cc
    gap_end (x ∷ es) q (suc i) below is le =
        for_later x es q i (below 0 x (omega arith))
        (gap_end es q i (λ j d lt. below (suc j) d (omega arith)) is (omega arith))

    pub gap : (es : List (K × V)) (q : K) (i : ℕ) (e : K × V) → Ascends (λ x. x.0) es → AreBelow (λ x. x.0) es q i →
        slice_get es i ≡ Some e → cmp q e.0 ≡ Less → IsFor cmp es q i
    gap [] q i e sorted below is less = cc
    gap (x ∷ es) q zero e sorted below is less = for_first x es q (ap (λ o. cmp q (unwrap_or o e).0) is ∙ less) sorted
    gap (x ∷ es) q (suc i) e sorted below is less =
        for_later x es q i (below 0 x (omega arith))
        (gap es q i e sorted.1 (λ j d lt. below (suc j) d (omega arith)) is less)

  -- KEYS

  pub keys_ascend : (ks : List K) → IsStrictlySortedBy cmp ks → Ascends (λ k. k) ks
  unfolding IsStrictlySortedBy
  keys_ascend [] h = tt
  keys_ascend (k ∷ ks) h = (h.0, keys_ascend ks h.1)

  key_first : (k : K) (ks : List K) (q : K) → cmp q k ≡ Equal → IsKeyAt cmp (k ∷ ks) q 0
  key_first k ks q p = record {
    in_range = omega arith;
    kept = ap (λ r. match_ordering r (q ∷ k ∷ ks) (k ∷ ks) (k ∷ insert_key cmp ks q)) (sym p);
    removed = ap (λ r. cond (is_eq r) ks (k ∷ remove_key (is_at (cmp q)) ks)) (sym p);
    there = ap (λ r. is_eq r || list_any (is_at (cmp q)) ks) (sym p);
  }

  key_later : (k : K) (ks : List K) (q : K) (i : ℕ) → cmp q k ≡ Greater → IsKeyAt cmp ks q i →
      IsKeyAt cmp (k ∷ ks) q (suc i)
  key_later k ks q i p is = record {
    in_range = omega (arith, is.in_range);
    kept = ap (λ r. k ∷ r) is.kept ∙ ap (λ r. match_ordering r (q ∷ k ∷ ks) (k ∷ ks) (k ∷ insert_key cmp ks q)) (sym p);
    removed = ap (λ r. k ∷ r) is.removed ∙ ap (λ r. cond (is_eq r) ks (k ∷ remove_key (is_at (cmp q)) ks)) (sym p);
    there = is.there ∙ ap (λ r. is_eq r || list_any (is_at (cmp q)) ks) (sym p);
  }

  no_key : (q : K) (ks : List K) → AllByRecursion (λ k. cmp q k ≡ Less) ks → false ≡ list_any (is_at (cmp q)) ks
  no_key q [] h = refl
  no_key q (k ∷ ks) h = no_key q ks h.1 ∙ ap (λ r. is_eq r || list_any (is_at (cmp q)) ks) (sym h.0)

  no_key_removed : (q : K) (ks : List K) → AllByRecursion (λ k. cmp q k ≡ Less) ks → ks ≡ remove_key (is_at (cmp q)) ks
  no_key_removed q [] h = refl
  no_key_removed q (k ∷ ks) h = ap (λ r. k ∷ r) (no_key_removed q ks h.1)
      ∙ ap (λ r. cond (is_eq r) ks (k ∷ remove_key (is_at (cmp q)) ks)) (sym h.0)

  key_end : (q : K) → IsKeyFor cmp [] q 0
  key_end q = record { in_range = omega arith; added = refl; absent = refl; kept = refl }

  key_before : (k : K) (ks : List K) (q : K) → cmp q k ≡ Less → Ascends (λ x. x) (k ∷ ks) → IsKeyFor cmp (k ∷ ks) q 0
  key_before k ks q p h =
      let past : AllByRecursion (λ x. cmp q x ≡ Less) (k ∷ ks) = (p, all_past (λ x. x) q k ks p h.0) in
      record {
        in_range = omega arith;
        added = ap (λ r. match_ordering r (q ∷ k ∷ ks) (k ∷ ks) (k ∷ insert_key cmp ks q)) (sym p);
        absent = no_key q (k ∷ ks) past;
        kept = no_key_removed q (k ∷ ks) past;
      }

  key_after : (k : K) (ks : List K) (q : K) (i : ℕ) → cmp q k ≡ Greater → IsKeyFor cmp ks q i →
      IsKeyFor cmp (k ∷ ks) q (suc i)
  key_after k ks q i p is = record {
    in_range = omega (arith, is.in_range);
    added = ap (λ r. k ∷ r) is.added
        ∙ ap (λ r. match_ordering r (q ∷ k ∷ ks) (k ∷ ks) (k ∷ insert_key cmp ks q)) (sym p);
    absent = is.absent ∙ ap (λ r. is_eq r || list_any (is_at (cmp q)) ks) (sym p);
    kept = ap (λ r. k ∷ r) is.kept ∙ ap (λ r. cond (is_eq r) ks (k ∷ remove_key (is_at (cmp q)) ks)) (sym p);
  }

  pub key_found : (ks : List K) (q : K) (i : ℕ) (k : K) → AreBelow (λ x. x) ks q i → slice_get ks i ≡ Some k →
      is_eq (cmp q k) ≡ true → IsKeyAt cmp ks q i
  key_found [] q i k below is same = cc
  key_found (x ∷ ks) q zero k below is same = key_first x ks q (ap (λ o. cmp q (unwrap_or o k)) is ∙ equal_from _ same)
  key_found (x ∷ ks) q (suc i) k below is same =
      key_later x ks q i (below 0 x (omega arith))
      (key_found ks q i k (λ j d lt. below (suc j) d (omega arith)) is same)

  pub key_gap_end : (ks : List K) (q : K) (i : ℕ) → AreBelow (λ x. x) ks q i → slice_get ks i ≡ None → i ≤ length ks →
      IsKeyFor cmp ks q i
  key_gap_end [] q i below is le = let z : 0 ≡ i = omega arith in subst (IsKeyFor cmp [] q) z (key_end q)
  key_gap_end (x ∷ ks) q zero below is le = cc
  key_gap_end (x ∷ ks) q (suc i) below is le =
      key_after x ks q i (below 0 x (omega arith))
      (key_gap_end ks q i (λ j d lt. below (suc j) d (omega arith)) is (omega arith))

  pub key_gap : (ks : List K) (q : K) (i : ℕ) (k : K) → Ascends (λ x. x) ks → AreBelow (λ x. x) ks q i →
      slice_get ks i ≡ Some k → cmp q k ≡ Less → IsKeyFor cmp ks q i
  key_gap [] q i k sorted below is less = cc
  key_gap (x ∷ ks) q zero k sorted below is less = key_before x ks q (ap (λ o. cmp q (unwrap_or o k)) is ∙ less) sorted
  key_gap (x ∷ ks) q (suc i) k sorted below is less =
      key_after x ks q i (below 0 x (omega arith))
      (key_gap ks q i k sorted.1 (λ j d lt. below (suc j) d (omega arith)) is less)
