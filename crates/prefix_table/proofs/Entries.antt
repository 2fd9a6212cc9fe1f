-- Entries in the order of their keys: where a search by halves ends, and the map that they make.
use Rattle.std.proofs.Common.{◌≡◌, ℕ, zero, suc, ◌<◌, ◌≤◌, Bool, true, false, cond, not, ◌&&◌, T, List, [], ◌∷◌, length, get_or, Option, Some, None, IsTrue, unwrap_or, refl, sym, ap, subst, ◌∙◌, arith}
use Rattle.std.specs.Prelude.{slice_get, slice_index_or, option_map}
use Rattle.std.specs.List as list
use Rattle.std.specs.List.Sorted.{IsPartitionedBy, IsPartitionPoint}
use Rattle.std.specs.declared.cmp.Ordering.{Ordering}
use Rattle.std.specs.declared.cmp.Ordering.TheVariants.{Less, Equal, Greater}
use Rattle.std.specs.Ordering.{is_lt, is_eq, is_gt, ordering_reverse}
use Rattle.std.specs.FinMap as map
use Rattle.std.proofs.lemmas.Bool.{ltb-true, ltb-false}
use Rattle.std.proofs.Math.Dec.{ltb}
use Rattle.std.proofs.lemmas.Option.{slice_get_read, slice_get_past, get_or_from_slice_get, slice_get_within}
use Rattle.std.specs.FinMap.Entries.{put, find, below_all, is_sorted, is_sorted-put, by_order}
use Rattle.net_prefix.specs.Prefix.{Prefix, prefix_cmp}
use Rattle.net_prefix.specs.Orders.{prefix_total, prefix_exact}
use Rattle.prefix_table.specs.Tables.{is_after}
use Rattle.prefix_table.specs.Places.{IsAt, IsFor}

pub T_of : (b : Bool) → b ≡ true → T b
T_of b e = subst T (sym e) tt

pub of_T : (b : Bool) → T b → b ≡ true
of_T true t = refl
of_T false t = absurd t

pub less_of : (o : Ordering) → T (is_lt o) → o ≡ Less
less_of Less e = refl
less_of Equal e = absurd e
less_of Greater e = absurd e

pub first : (a b : Bool) → T (a && b) → T a
first true b p = tt
first false b p = p

pub second : (a b : Bool) → T (a && b) → T b
second true b p = p
second false b p = absurd p

-- a test that passes a key passes the keys below it
abbrev pub IsLow : (Prefix → Bool) → Type 0
IsLow p = (x y : Prefix) → prefix_cmp x y ≡ Less → p y ≡ true → p x ≡ true

pub low_greater : (q : Prefix) → IsLow (λ k. is_gt (prefix_cmp q k))
low_greater q x y less is =
    let above : prefix_cmp y q ≡ Less = prefix_total.antisymm y q
    ∙ elim (prefix_cmp q y) as (λ o. is_gt o ≡ true → ordering_reverse o ≡ Less) [
      | Less ↦ λ e. cc
      | Equal ↦
          λ e. cc
      | Greater ↦ λ e. refl
    ] is in
    ap is_gt (prefix_total.antisymm q x ∙ ap ordering_reverse (prefix_total.trans x y q less above))

pub low_not_after : (after : Option Prefix) → IsLow (λ k. not (is_after after k))
low_not_after None x y less is = cc
low_not_after (Some p) x y less is =
    elim (is_lt (prefix_cmp p x)) as (λ b. is_lt (prefix_cmp p x) ≡ b → not b ≡ true) [
      | true ↦ λ e. let above : prefix_cmp p y ≡ Less = prefix_total.trans p x y (less_of _ (T_of _ e)) less in
          sym (ap (λ o. not (is_lt o)) above) ∙ is
      | false ↦ λ e. refl
    ] refl

less_from : (o : Ordering) → is_gt o ≡ false → is_eq o ≡ false → o ≡ Less
less_from Less g e = refl
less_from Equal g e = cc
less_from Greater g e = cc

equal_from : (o : Ordering) → is_eq o ≡ true → o ≡ Equal
equal_from Less e = cc
equal_from Equal e = refl
equal_from Greater e = cc

greater_from : (o : Ordering) → is_gt o ≡ true → o ≡ Greater
greater_from Less e = cc
greater_from Equal e = cc
greater_from Greater e = refl

from_not : (b : Bool) → not b ≡ true → b ≡ false
from_not true e = cc
from_not false e = refl

from_not_false : (b : Bool) → not b ≡ false → b ≡ true
from_not_false true e = refl
from_not_false false e = cc

module _ {V : Type 0} where
  at_first : (e : Prefix × V) (es : List (Prefix × V)) (q : Prefix) → prefix_cmp q e.0 ≡ Equal → IsAt (e ∷ es) q 0
  at_first e es q p = record {
    in_range = omega arith;
    written = λ v. ap (λ k. (k, v) ∷ es) (prefix_exact q e.0 p)
        ∙ ap (λ r. by_order r ((q, v) ∷ e ∷ es) ((e.0, v) ∷ es) (e ∷ put prefix_cmp q v es)) (sym p);
    value = λ x h. ap (λ r. cond (is_eq r) (Some e.1) (find prefix_cmp q es)) p
        ∙ ap (λ y. option_map (λ (z : Prefix × V). z.1) y) h;
    key = λ x h. sym (ap (λ y. (unwrap_or y e).0) h) ∙ sym (prefix_exact q e.0 p);
  }

  at_later : (e : Prefix × V) (es : List (Prefix × V)) (q : Prefix) (i : ℕ) → prefix_cmp q e.0 ≡ Greater → IsAt es q i →
      IsAt (e ∷ es) q (suc i)
  at_later e es q i p is = record {
    in_range = omega (arith, is.in_range);
    written = λ v. ap (λ r. e ∷ r) (is.written v)
        ∙ ap (λ r. by_order r ((q, v) ∷ e ∷ es) ((e.0, v) ∷ es) (e ∷ put prefix_cmp q v es)) (sym p);
    value = λ x h. ap (λ r. cond (is_eq r) (Some e.1) (find prefix_cmp q es)) p ∙ is.value x h;
    key = λ x h. is.key x h;
  }

  pub find_below : (q : Prefix) (es : List (Prefix × V)) → T (below_all prefix_cmp q es) → find prefix_cmp q es ≡ None
  find_below q [] h = refl
  find_below q (e ∷ es) h = ap (λ r. cond (is_eq r) (Some e.1) (find prefix_cmp q es)) (less_of _ (first _ _ h))
      ∙ find_below q es (second _ _ h)

  below_less : (x y : Prefix) (es : List (Prefix × V)) → prefix_cmp x y ≡ Less → T (below_all prefix_cmp y es) →
      T (below_all prefix_cmp x es)
  below_less x y [] p h = tt
  below_less x y (e ∷ es) p h =
      let a : prefix_cmp x e.0 ≡ Less = prefix_total.trans x y e.0 p (less_of _ (first _ _ h)) in
      subst (λ r. T (is_lt r && below_all prefix_cmp x es)) (sym a) (below_less x y es p (second _ _ h))

  for_end : (q : Prefix) → IsFor {V = V} [] q 0
  for_end q = record { in_range = omega arith; added = λ v. refl; absent = refl }

  for_first : (e : Prefix × V) (es : List (Prefix × V)) (q : Prefix) → prefix_cmp q e.0 ≡ Less →
      T (is_sorted prefix_cmp (e ∷ es)) → IsFor (e ∷ es) q 0
  for_first e es q p h = record {
    in_range = omega arith;
    added = λ v. ap (λ r. by_order r ((q, v) ∷ e ∷ es) ((e.0, v) ∷ es) (e ∷ put prefix_cmp q v es)) (sym p);
    absent = ap (λ r. cond (is_eq r) (Some e.1) (find prefix_cmp q es)) p
        ∙ find_below q es (below_less q e.0 es p (first _ _ h));
  }

  for_later : (e : Prefix × V) (es : List (Prefix × V)) (q : Prefix) (i : ℕ) → prefix_cmp q e.0 ≡ Greater →
      IsFor es q i → IsFor (e ∷ es) q (suc i)
  for_later e es q i p is = record {
    in_range = omega (arith, is.in_range);
    added = λ v. ap (λ r. e ∷ r) (is.added v)
        ∙ ap (λ r. by_order r ((q, v) ∷ e ∷ es) ((e.0, v) ∷ es) (e ∷ put prefix_cmp q v es)) (sym p);
    absent = ap (λ r. cond (is_eq r) (Some e.1) (find prefix_cmp q es)) p ∙ is.absent;
  }

  -- the keys of the entries before the position are below the key
  abbrev pub AreBelow : List (Prefix × V) → Prefix → ℕ → Type 0
  AreBelow es q i = (k : ℕ) (d : Prefix × V) → k < i → prefix_cmp q (slice_index_or es k d).0 ≡ Greater

  pub found : (es : List (Prefix × V)) (q : Prefix) (i : ℕ) (e : Prefix × V) → AreBelow es q i →
      slice_get es i ≡ Some e → prefix_cmp q e.0 ≡ Equal → IsAt es q i
  found [] q i e below is same = cc
  found (x ∷ es) q zero e below is same = at_first x es q (ap (λ o. prefix_cmp q (unwrap_or o e).0) is ∙ same)
  found (x ∷ es) q (suc i) e below is same =
      at_later x es q i (below 0 x (omega arith)) (found es q i e (λ k d lt. below (suc k) d (omega arith)) is same)

  pub gap_end : (es : List (Prefix × V)) (q : Prefix) (i : ℕ) → AreBelow es q i → slice_get es i ≡ None →
      i ≤ length es → IsFor es q i
  gap_end [] q i below is le = let z : 0 ≡ i = omega arith in subst (IsFor [] q) z (for_end q)
  gap_end (x ∷ es) q zero below is le = cc
  gap_end (x ∷ es) q (suc i) below is le =
      for_later x es q i (below 0 x (omega arith))
      (gap_end es q i (λ k d lt. below (suc k) d (omega arith)) is (omega arith))

  pub gap : (es : List (Prefix × V)) (q : Prefix) (i : ℕ) (e : Prefix × V) → T (is_sorted prefix_cmp es) →
      AreBelow es q i → slice_get es i ≡ Some e → prefix_cmp q e.0 ≡ Less → IsFor es q i
  gap [] q i e sorted below is less = cc
  gap (x ∷ es) q zero e sorted below is less =
      for_first x es q (ap (λ o. prefix_cmp q (unwrap_or o e).0) is ∙ less) sorted
  gap (x ∷ es) q (suc i) e sorted below is less =
      for_later x es q i (below 0 x (omega arith))
      (gap es q i e (second (below_all prefix_cmp x.0 es) (is_sorted prefix_cmp es) sorted)
      (λ k d lt. below (suc k) d (omega arith)) is less)

  below_at : (x : Prefix) (es : List (Prefix × V)) (j : ℕ) (d : Prefix × V) → T (below_all prefix_cmp x es) →
      j < length es → prefix_cmp x (slice_index_or es j d).0 ≡ Less
  below_at x [] j d h lt = absurd (omega arith)
  below_at x (e ∷ es) zero d h lt = less_of _ (first _ _ h)
  below_at x (e ∷ es) (suc j) d h lt =
      below_at x es j d (second (is_lt (prefix_cmp x e.0)) (below_all prefix_cmp x es) h) (omega arith)

  pub parted : (p : Prefix → Bool) (es : List (Prefix × V)) → IsLow p → T (is_sorted prefix_cmp es) →
      IsPartitionedBy (λ e. p e.0) es
  parted p [] low h i j d le lt is = absurd (omega arith)
  parted p (e ∷ es) low h zero zero d le lt is = is
  parted p (e ∷ es) low h zero (suc j) d le lt is =
      low e.0 (slice_index_or es j d).0
      (below_at e.0 es j d (first (below_all prefix_cmp e.0 es) (is_sorted prefix_cmp es) h) (omega arith)) is
  parted p (e ∷ es) low h (suc i) zero d le lt is = absurd (omega arith)
  parted p (e ∷ es) low h (suc i) (suc j) d le lt is =
      parted p es low (second (below_all prefix_cmp e.0 es) (is_sorted prefix_cmp es) h) i j d
      (omega arith) (omega arith) is

  -- the first element that passes stands at the position before which none passes
  pub find_at : (p : Prefix × V → Bool) (es : List (Prefix × V)) (i : ℕ) →
      IsPartitionPoint (λ e. not (p e) ≡ true) (λ e. not (p e) ≡ false) es i → list.find p es ≡ slice_get es i
  find_at p [] i at = refl
  find_at p (e ∷ es) zero at =
      ap (λ b. cond b (Some e) (list.find p es)) (from_not_false (p e) (at.1 0 e (omega arith) (omega arith)))
  find_at p (e ∷ es) (suc i) at =
      ap (λ b. cond b (Some e) (list.find p es)) (from_not (p e) (at.0 0 e (omega arith) (omega arith)))
      ∙ find_at p es i (
        λ k d low lt. at.0 (suc k) d (omega arith) (omega arith),
        λ k d low lt. at.1 (suc k) d (omega arith) (omega arith),
      )

  -- what a read of a slice tells
  pub read_some : (es : List (Prefix × V)) (i : ℕ) (e : Prefix × V) → true ≡ ltb i (length es) → e ≡ get_or es i e →
      slice_get es i ≡ Some e
  read_some es i e within is = slice_get_read es (length es) i e refl (ltb-true i (length es) (sym within)) is

  pub read_none : (es : List (Prefix × V)) (i : ℕ) → false ≡ ltb i (length es) → slice_get es i ≡ None
  read_none es i past = slice_get_past es i (ltb-false i (length es) (sym past))

  -- where the search for a key ends
  pub placed : (es : List (Prefix × V)) (q : Prefix) (i : ℕ) (e : Prefix × V) →
      IsPartitionPoint (λ x. is_gt (prefix_cmp q x.0) ≡ true) (λ x. is_gt (prefix_cmp q x.0) ≡ false) es i
      → slice_get es i ≡ Some e → is_eq (prefix_cmp q e.0) ≡ true → IsAt es q i
  placed es q i e at is same = found es q i e (λ k d lt. greater_from _ (at.0 k d (omega arith) lt)) is
      (equal_from _ same)

  pub missing : (es : List (Prefix × V)) (q : Prefix) (i : ℕ) (e : Prefix × V) → T (is_sorted prefix_cmp es) →
      IsPartitionPoint (λ x. is_gt (prefix_cmp q x.0) ≡ true) (λ x. is_gt (prefix_cmp q x.0) ≡ false) es i
      → slice_get es i ≡ Some e → is_eq (prefix_cmp q e.0) ≡ false → IsFor es q i
  missing es q i e sorted at is other =
      let here : is_gt (prefix_cmp q e.0) ≡ false =
      ap (λ x. is_gt (prefix_cmp q x.0)) (sym (get_or_from_slice_get es i e e is))
      ∙ at.1 i e (omega arith) (slice_get_within es i e is) in
      gap es q i e sorted (λ k d lt. greater_from _ (at.0 k d (omega arith) lt)) is (less_from _ here other)

  pub past_end : (es : List (Prefix × V)) (q : Prefix) (i : ℕ) →
      IsPartitionPoint (λ x. is_gt (prefix_cmp q x.0) ≡ true) (λ x. is_gt (prefix_cmp q x.0) ≡ false) es i
      → slice_get es i ≡ None → i ≤ length es → IsFor es q i
  past_end es q i at is le = gap_end es q i (λ k d lt. greater_from _ (at.0 k d (omega arith) lt)) is le

  pub sorted-put : (q : Prefix) (v : V) (es : List (Prefix × V)) → IsTrue (is_sorted prefix_cmp es) →
      IsTrue (is_sorted prefix_cmp (put prefix_cmp q v es))
  sorted-put q v es t = of_T _ (is_sorted-put prefix_cmp prefix_total q v es (T_of _ t))

  pub entries_of : (es : List (Prefix × V)) → IsTrue (is_sorted prefix_cmp es) →
      map.entries (map.from_sorted {R = prefix_cmp} es) ≡ es
  entries_of es t = map.entries-from_sorted prefix_cmp es (T_of _ t)

  pub get_of : (es : List (Prefix × V)) (q : Prefix) → IsTrue (is_sorted prefix_cmp es) →
      map.get (map.from_sorted {R = prefix_cmp} es) q ≡ find prefix_cmp q es
  get_of es q t = map.get-from_sorted prefix_cmp es q (T_of _ t)

  -- entries put in their places make the map with the entry put in
  pub put_of : (es : List (Prefix × V)) (q : Prefix) (v : V) → IsTrue (is_sorted prefix_cmp es) →
      map.from_sorted {R = prefix_cmp} (put prefix_cmp q v es) ≡ map.insert (map.from_sorted es) q v
  put_of es q v t =
      map.same_entries_map _ _ (entries_of _ (sorted-put q v es t) ∙ ap (put prefix_cmp q v) (sym (entries_of es t))
      ∙ sym (map.entries-insert prefix_total (map.from_sorted es) q v))
