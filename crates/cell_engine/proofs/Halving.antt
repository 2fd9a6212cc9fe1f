-- Entries in the order of their routers: where a search by halves ends.
use Rattle.std.proofs.Common.{◌≡◌, ℕ, zero, suc, ◌<◌, ◌≤◌, Bool, true, false, cond, not, ◌&&◌, T, List, [], ◌∷◌, length, get_or, Option, Some, None, IsTrue, unwrap_or, refl, sym, ap, subst, ◌∙◌, arith}
use Rattle.std.specs.Prelude.{slice_get, slice_index_or, option_map}
use Rattle.std.specs.List as list
use Rattle.std.specs.Map.{remove_entry}
use Rattle.std.specs.BTreeMap.{is_at}
use Rattle.std.specs.List.Sorted.{IsPartitionedBy, IsPartitionPoint}
use Rattle.std.specs.declared.cmp.Ordering.{Ordering}
use Rattle.std.specs.declared.cmp.Ordering.TheVariants.{Less, Equal, Greater}
use Rattle.std.specs.Ordering.{is_lt, is_eq, is_gt, ordering_reverse}
use Rattle.std.proofs.lemmas.Bool.{ltb-true, ltb-false}
use Rattle.std.proofs.Math.Dec.{ltb}
use Rattle.std.proofs.lemmas.Option.{slice_get_read, slice_get_past, get_or_from_slice_get, slice_get_within}
use Rattle.std.specs.FinMap.Entries.{put, find, below_all, is_sorted, is_sorted-put, by_order}
use Rattle.net_prefix.specs.declared.addr.Addr.{Addr}
use Rattle.net_prefix.specs.Address.{addr_cmp}
use Rattle.net_prefix.specs.Orders.{addr_total, addr_exact}
use Rattle.prefix_table.proofs.Entries.{T_of, of_T, less_of, first, second}
use Rattle.cell_engine.specs.RouterTables.{is_past}
use Rattle.cell_engine.specs.TablePlaces.{IsAt, IsFor}

-- a test that passes a key passes the keys below it
abbrev pub IsLow : (Addr → Bool) → Type 0
IsLow p = (x y : Addr) → addr_cmp x y ≡ Less → p y ≡ true → p x ≡ true

pub low_greater : (q : Addr) → IsLow (λ k. is_gt (addr_cmp q k))
low_greater q x y less is =
    let above : addr_cmp y q ≡ Less = addr_total.antisymm y q
    ∙ elim (addr_cmp q y) as (λ o. is_gt o ≡ true → ordering_reverse o ≡ Less) [
      | Less ↦ λ e. cc
      | Equal ↦
          λ e. cc
      | Greater ↦ λ e. refl
    ] is in
    ap is_gt (addr_total.antisymm q x ∙ ap ordering_reverse (addr_total.trans x y q less above))

pub low_not_past : (past : Option Addr) → IsLow (λ k. not (is_past past k))
low_not_past None x y less is = cc
low_not_past (Some p) x y less is =
    elim (is_lt (addr_cmp p x)) as (λ b. is_lt (addr_cmp p x) ≡ b → not b ≡ true) [
      | true ↦ λ e. let above : addr_cmp p y ≡ Less = addr_total.trans p x y (less_of _ (T_of _ e)) less in
          sym (ap (λ o. not (is_lt o)) above) ∙ is
      | false ↦ λ e. refl
    ] refl

less_from : (o : Ordering) → is_gt o ≡ false → is_eq o ≡ false → o ≡ Less
less_from Less g e = refl
less_from Equal g e = cc
less_from Greater g e = cc

equal_from : (o : Ordering) → is_eq o ≡ true → o ≡ Equal
equal_from Less e = cc
equal_from Equal e = refl
equal_from Greater e = cc

greater_from : (o : Ordering) → is_gt o ≡ true → o ≡ Greater
greater_from Less e = cc
greater_from Equal e = cc
greater_from Greater e = refl

from_not : (b : Bool) → not b ≡ true → b ≡ false
from_not true e = cc
from_not false e = refl

from_not_false : (b : Bool) → not b ≡ false → b ≡ true
from_not_false true e = refl
from_not_false false e = cc

module _ {A : Type 0} where
  at_first : (e : Addr × A) (es : List (Addr × A)) (q : Addr) → addr_cmp q e.0 ≡ Equal → IsAt (e ∷ es) q 0
  at_first e es q p = record {
    in_range = omega arith;
    written = λ v. ap (λ k. (k, v) ∷ es) (addr_exact q e.0 p)
        ∙ ap (λ r. by_order r ((q, v) ∷ e ∷ es) ((e.0, v) ∷ es) (e ∷ put addr_cmp q v es)) (sym p);
    value = λ x h. ap (λ r. cond (is_eq r) (Some e.1) (find addr_cmp q es)) p
        ∙ ap (λ y. option_map (λ (z : Addr × A). z.1) y) h;
    key = λ x h. sym (ap (λ y. (unwrap_or y e).0) h) ∙ sym (addr_exact q e.0 p);
    taken_out = ap (λ r. cond (is_eq r) es (e ∷ remove_entry (is_at (addr_cmp q)) es)) (sym p);
  }

  at_later : (e : Addr × A) (es : List (Addr × A)) (q : Addr) (i : ℕ) → addr_cmp q e.0 ≡ Greater → IsAt es q i →
      IsAt (e ∷ es) q (suc i)
  at_later e es q i p is = record {
    in_range = omega (arith, is.in_range);
    written = λ v. ap (λ r. e ∷ r) (is.written v)
        ∙ ap (λ r. by_order r ((q, v) ∷ e ∷ es) ((e.0, v) ∷ es) (e ∷ put addr_cmp q v es)) (sym p);
    value = λ x h. ap (λ r. cond (is_eq r) (Some e.1) (find addr_cmp q es)) p ∙ is.value x h;
    key = λ x h. is.key x h;
    taken_out = ap (λ l. e ∷ l) is.taken_out
        ∙ ap (λ r. cond (is_eq r) es (e ∷ remove_entry (is_at (addr_cmp q)) es)) (sym p);
  }

  pub find_below : (q : Addr) (es : List (Addr × A)) → T (below_all addr_cmp q es) → find addr_cmp q es ≡ None
  find_below q [] h = refl
  find_below q (e ∷ es) h = ap (λ r. cond (is_eq r) (Some e.1) (find addr_cmp q es)) (less_of _ (first _ _ h))
      ∙ find_below q es (second _ _ h)

  pub below_less : (x y : Addr) (es : List (Addr × A)) → addr_cmp x y ≡ Less → T (below_all addr_cmp y es) →
      T (below_all addr_cmp x es)
  below_less x y [] p h = tt
  below_less x y (e ∷ es) p h =
      let a : addr_cmp x e.0 ≡ Less = addr_total.trans x y e.0 p (less_of _ (first _ _ h)) in
      subst (λ r. T (is_lt r && below_all addr_cmp x es)) (sym a) (below_less x y es p (second _ _ h))

  for_end : (q : Addr) → IsFor {A = A} [] q 0
  for_end q = record { in_range = omega arith; added = λ v. refl; absent = refl }

  for_first : (e : Addr × A) (es : List (Addr × A)) (q : Addr) → addr_cmp q e.0 ≡ Less →
      T (is_sorted addr_cmp (e ∷ es)) → IsFor (e ∷ es) q 0
  for_first e es q p h = record {
    in_range = omega arith;
    added = λ v. ap (λ r. by_order r ((q, v) ∷ e ∷ es) ((e.0, v) ∷ es) (e ∷ put addr_cmp q v es)) (sym p);
    absent = ap (λ r. cond (is_eq r) (Some e.1) (find addr_cmp q es)) p
        ∙ find_below q es (below_less q e.0 es p (first _ _ h));
  }

  for_later : (e : Addr × A) (es : List (Addr × A)) (q : Addr) (i : ℕ) → addr_cmp q e.0 ≡ Greater → IsFor es q i →
      IsFor (e ∷ es) q (suc i)
  for_later e es q i p is = record {
    in_range = omega (arith, is.in_range);
    added = λ v. ap (λ r. e ∷ r) (is.added v)
        ∙ ap (λ r. by_order r ((q, v) ∷ e ∷ es) ((e.0, v) ∷ es) (e ∷ put addr_cmp q v es)) (sym p);
    absent = ap (λ r. cond (is_eq r) (Some e.1) (find addr_cmp q es)) p ∙ is.absent;
  }

  -- the keys of the entries before the place are below the key
  abbrev pub AreBelow : List (Addr × A) → Addr → ℕ → Type 0
  AreBelow es q i = (k : ℕ) (d : Addr × A) → k < i → addr_cmp q (slice_index_or es k d).0 ≡ Greater

  pub found : (es : List (Addr × A)) (q : Addr) (i : ℕ) (e : Addr × A) → AreBelow es q i → slice_get es i ≡ Some e →
      addr_cmp q e.0 ≡ Equal → IsAt es q i
  found [] q i e below is same = cc
  found (x ∷ es) q zero e below is same = at_first x es q (ap (λ o. addr_cmp q (unwrap_or o e).0) is ∙ same)
  found (x ∷ es) q (suc i) e below is same =
      at_later x es q i (below 0 x (omega arith)) (found es q i e (λ k d lt. below (suc k) d (omega arith)) is same)

  pub gap_end : (es : List (Addr × A)) (q : Addr) (i : ℕ) → AreBelow es q i → slice_get es i ≡ None →
      i ≤ length es → IsFor es q i
  gap_end [] q i below is le = let z : 0 ≡ i = omega arith in subst (IsFor [] q) z (for_end q)
  gap_end (x ∷ es) q zero below is le = cc
  gap_end (x ∷ es) q (suc i) below is le =
      for_later x es q i (below 0 x (omega arith))
      (gap_end es q i (λ k d lt. below (suc k) d (omega arith)) is (omega arith))

  pub gap : (es : List (Addr × A)) (q : Addr) (i : ℕ) (e : Addr × A) → T (is_sorted addr_cmp es) → AreBelow es q i →
      slice_get es i ≡ Some e → addr_cmp q e.0 ≡ Less → IsFor es q i
  gap [] q i e sorted below is less = cc
  gap (x ∷ es) q zero e sorted below is less =
      for_first x es q (ap (λ o. addr_cmp q (unwrap_or o e).0) is ∙ less) sorted
  gap (x ∷ es) q (suc i) e sorted below is less =
      for_later x es q i (below 0 x (omega arith))
      (gap es q i e (second (below_all addr_cmp x.0 es) (is_sorted addr_cmp es) sorted)
      (λ k d lt. below (suc k) d (omega arith)) is less)

  below_at : (x : Addr) (es : List (Addr × A)) (j : ℕ) (d : Addr × A) → T (below_all addr_cmp x es) → j < length es →
      addr_cmp x (slice_index_or es j d).0 ≡ Less
  below_at x [] j d h lt = absurd (omega arith)
  below_at x (e ∷ es) zero d h lt = less_of _ (first _ _ h)
  below_at x (e ∷ es) (suc j) d h lt =
      below_at x es j d (second (is_lt (addr_cmp x e.0)) (below_all addr_cmp x es) h) (omega arith)

  pub parted : (p : Addr → Bool) (es : List (Addr × A)) → IsLow p → T (is_sorted addr_cmp es) →
      IsPartitionedBy (λ e. p e.0) es
  parted p [] low h i j d le lt is = absurd (omega arith)
  parted p (e ∷ es) low h zero zero d le lt is = is
  parted p (e ∷ es) low h zero (suc j) d le lt is =
      low e.0 (slice_index_or es j d).0
      (below_at e.0 es j d (first (below_all addr_cmp e.0 es) (is_sorted addr_cmp es) h) (omega arith)) is
  parted p (e ∷ es) low h (suc i) zero d le lt is = absurd (omega arith)
  parted p (e ∷ es) low h (suc i) (suc j) d le lt is =
      parted p es low (second (below_all addr_cmp e.0 es) (is_sorted addr_cmp es) h) i j d
      (omega arith) (omega arith) is

  -- the first element that passes stands at the place before which none passes
  pub find_at : (p : Addr × A → Bool) (es : List (Addr × A)) (i : ℕ) →
      IsPartitionPoint (λ e. not (p e) ≡ true) (λ e. not (p e) ≡ false) es i → list.find p es ≡ slice_get es i
  find_at p [] i at = refl
  find_at p (e ∷ es) zero at =
      ap (λ b. cond b (Some e) (list.find p es)) (from_not_false (p e) (at.1 0 e (omega arith) (omega arith)))
  find_at p (e ∷ es) (suc i) at =
      ap (λ b. cond b (Some e) (list.find p es)) (from_not (p e) (at.0 0 e (omega arith) (omega arith)))
      ∙ find_at p es i (
        λ k d low lt. at.0 (suc k) d (omega arith) (omega arith),
        λ k d low lt. at.1 (suc k) d (omega arith) (omega arith),
      )

  -- what a read of a slice tells
  pub read_some : (es : List (Addr × A)) (i : ℕ) (e : Addr × A) → true ≡ ltb i (length es) → e ≡ get_or es i e →
      slice_get es i ≡ Some e
  read_some es i e within is = slice_get_read es (length es) i e refl (ltb-true i (length es) (sym within)) is

  pub read_none : (es : List (Addr × A)) (i : ℕ) → false ≡ ltb i (length es) → slice_get es i ≡ None
  read_none es i past = slice_get_past es i (ltb-false i (length es) (sym past))

  -- a key is seen at its place
  pub seen_at : (es : List (Addr × A)) (q : Addr) (i : ℕ) (e : Addr × A) → T (is_sorted addr_cmp es) →
      slice_get es i ≡ Some e → is_eq (addr_cmp q e.0) ≡ true → IsAt es q i
  seen_at [] q i e sorted is same = cc
  seen_at (x ∷ es) q zero e sorted is same = at_first x es q (ap (λ o. addr_cmp q (unwrap_or o e).0) is
      ∙ equal_from _ same)
  seen_at (x ∷ es) q (suc i) e sorted is same =
      let here : q ≡ (slice_index_or es i e).0 = addr_exact q e.0 (equal_from _ same)
      ∙ ap (λ (y : Addr × A). y.0) (sym (get_or_from_slice_get es i e e is)) in
      let less : addr_cmp x.0 q ≡ Less = ap (addr_cmp x.0) here
      ∙ below_at x.0 es i e (first (below_all addr_cmp x.0 es) (is_sorted addr_cmp es) sorted)
      (slice_get_within es i e is) in
      at_later x es q i (addr_total.antisymm q x.0 ∙ ap ordering_reverse less)
      (seen_at es q i e (second (below_all addr_cmp x.0 es) (is_sorted addr_cmp es) sorted) is same)

  -- where the search for a key ends
  pub placed : (es : List (Addr × A)) (q : Addr) (i : ℕ) (e : Addr × A) →
      IsPartitionPoint (λ x. is_gt (addr_cmp q x.0) ≡ true) (λ x. is_gt (addr_cmp q x.0) ≡ false) es i
      → slice_get es i ≡ Some e → is_eq (addr_cmp q e.0) ≡ true → IsAt es q i
  placed es q i e at is same = found es q i e (λ k d lt. greater_from _ (at.0 k d (omega arith) lt)) is
      (equal_from _ same)

  pub missing : (es : List (Addr × A)) (q : Addr) (i : ℕ) (e : Addr × A) → T (is_sorted addr_cmp es) →
      IsPartitionPoint (λ x. is_gt (addr_cmp q x.0) ≡ true) (λ x. is_gt (addr_cmp q x.0) ≡ false) es i
      → slice_get es i ≡ Some e → is_eq (addr_cmp q e.0) ≡ false → IsFor es q i
  missing es q i e sorted at is other =
      let here : is_gt (addr_cmp q e.0) ≡ false =
      ap (λ x. is_gt (addr_cmp q x.0)) (sym (get_or_from_slice_get es i e e is))
      ∙ at.1 i e (omega arith) (slice_get_within es i e is) in
      gap es q i e sorted (λ k d lt. greater_from _ (at.0 k d (omega arith) lt)) is (less_from _ here other)

  pub past_end : (es : List (Addr × A)) (q : Addr) (i : ℕ) →
      IsPartitionPoint (λ x. is_gt (addr_cmp q x.0) ≡ true) (λ x. is_gt (addr_cmp q x.0) ≡ false) es i
      → slice_get es i ≡ None → i ≤ length es → IsFor es q i
  past_end es q i at is le = gap_end es q i (λ k d lt. greater_from _ (at.0 k d (omega arith) lt)) is le

  pub sorted-put : (q : Addr) (v : A) (es : List (Addr × A)) → IsTrue (is_sorted addr_cmp es) →
      IsTrue (is_sorted addr_cmp (put addr_cmp q v es))
  sorted-put q v es t = of_T _ (is_sorted-put addr_cmp addr_total q v es (T_of _ t))
