-- A number put among ascending ones, at its place.
use Rattle.std.proofs.Common.{◌≡◌, ℕ, zero, suc, ◌<◌, ◌≤◌, true, false, cond, List, [], ◌∷◌, ◌++◌, length, refl, sym, ap, subst, ◌∙◌, ⊎_elim, arith}
use Rattle.std.proofs.lemmas.Bool.{ltb-true, ltb-false, lt-ltb, le-ltb, eqb-false, ne_eqb, or_parts, cases_order, true≢false}
use Rattle.std.specs.Prelude.{nat_eq, nat_lt, filter, slice_index_or, ◌||◌}
use Rattle.std.specs.List.{AllByRecursion, insert}
use Rattle.std.specs.List.Sorted.{IsPartitionedBy, IsPartitionPoint}
use Rattle.path_attr.specs.Path.{IsAscending}
use Rattle.path_attr.specs.Communities.{carries, with_community}

-- all are above the number
abbrev pub AreAbove : ℕ → List ℕ → Type 0
AreAbove n ns = AllByRecursion (λ m. n < m) ns

above_less : (n m : ℕ) (ns : List ℕ) → n < m → AreAbove m ns → AreAbove n ns
above_less n m [] lt h = tt
above_less n m (k ∷ ks) lt h = (omega (arith, lt, h.0), above_less n m ks lt h.1)

pub above : (n : ℕ) (ns : List ℕ) → IsAscending (n ∷ ns) → AreAbove n ns
above n [] h = tt
above n (m ∷ ms) h = (h.0, above_less n m ms h.0 (above m ms h.1))

pub ascending_after : (n : ℕ) (ns : List ℕ) → IsAscending (n ∷ ns) → IsAscending ns
ascending_after n [] h = tt
ascending_after n (m ∷ ms) h = h.1

ascending_with_front : (n : ℕ) (ns : List ℕ) → AreAbove n ns → IsAscending ns → IsAscending (n ∷ ns)
ascending_with_front n [] over h = tt
ascending_with_front n (m ∷ ms) over h = (over.0, h)

-- WHAT FILTERS LEAVE

none_below : (n : ℕ) (ns : List ℕ) → AreAbove n ns → filter (λ m. nat_lt m n) ns ≡ []
none_below n [] h = refl
none_below n (m ∷ ms) h = ap (λ b. cond b (m ∷ filter (λ k. nat_lt k n) ms) (filter (λ k. nat_lt k n) ms))
    (le-ltb m n (omega (arith, h.0))) ∙ none_below n ms h.1

all_above : (n : ℕ) (ns : List ℕ) → AreAbove n ns → filter (λ m. nat_lt n m) ns ≡ ns
all_above n [] h = refl
all_above n (m ∷ ms) h = ap (λ b. cond b (m ∷ filter (λ k. nat_lt n k) ms) (filter (λ k. nat_lt n k) ms))
    (lt-ltb n m h.0) ∙ ap (λ ks. m ∷ ks) (all_above n ms h.1)

-- it stands in front of those that it is below
with_front : (n : ℕ) (ns : List ℕ) → AreAbove n ns → with_community n ns ≡ n ∷ ns
with_front n ns over = λ i. none_below n ns over i ++ n ∷ all_above n ns over i

-- it comes behind one that is below it
with_later : (n m : ℕ) (ms : List ℕ) → m < n → with_community n (m ∷ ms) ≡ m ∷ with_community n ms
with_later n m ms lt = λ i. cond (lt-ltb m n lt i) (m ∷ filter (λ k. nat_lt k n) ms) (filter (λ k. nat_lt k n) ms)
    ++ n ∷ cond (le-ltb n m (omega (arith, lt)) i) (m ∷ filter (λ k. nat_lt n k) ms) (filter (λ k. nat_lt n k) ms)

-- one that is there stands there once
with_same : (n m : ℕ) (ms : List ℕ) → n ≡ m → AreAbove m ms → with_community n (m ∷ ms) ≡ m ∷ ms
with_same n m ms e over =
    let below = ap (λ b. cond b (m ∷ filter (λ k. nat_lt k n) ms) (filter (λ k. nat_lt k n) ms))
    (le-ltb m n (omega (arith, e))) in
    let past = ap (λ b. cond b (m ∷ filter (λ k. nat_lt n k) ms) (filter (λ k. nat_lt n k) ms))
    (le-ltb n m (omega (arith, e))) in
    let over' : AreAbove n ms = subst (λ k. AreAbove k ms) (sym e) over in
    (λ i. (below ∙ none_below n ms over') i ++ e i ∷ (past ∙ all_above n ms over') i)

-- WHAT IS AMONG THEM

absent_above : (n : ℕ) (ns : List ℕ) → AreAbove n ns → carries n ns ≡ false
absent_above n [] h = refl
absent_above n (m ∷ ms) h = ap (λ b. b || carries n ms) (ne_eqb n m (λ e. omega (arith, e, h.0)))
    ∙ absent_above n ms h.1

-- the community is there already: nothing changes
pub with_present : (n : ℕ) (ns : List ℕ) → IsAscending ns → carries n ns ≡ true → with_community n ns ≡ ns
with_present n [] asc there = absurd (true≢false (sym there))
with_present n (m ∷ ms) asc there = ⊎_elim
    (λ e. with_same n m ms e (above m ms asc))
    (λ o. ⊎_elim
    (λ lt. absurd (true≢false (sym there ∙ absent_above n (m ∷ ms) (lt, above_less n m ms lt (above m ms asc)))))
    (λ lt. with_later n m ms lt
    ∙ ap (λ ks. m ∷ ks) (with_present n ms (ascending_after m ms asc)
    (sym (ap (λ b. b || carries n ms) (ne_eqb n m (λ e. omega (arith, e, lt)))) ∙ there)))
    o)
    (cases_order n m)

above_with : (k n : ℕ) (ns : List ℕ) → k < n → AreAbove k ns → IsAscending ns → AreAbove k (with_community n ns)
above_with k n [] lt h asc = (lt, tt)
above_with k n (m ∷ ms) lt h asc = ⊎_elim
    (λ e. subst (AreAbove k) (sym (with_same n m ms e (above m ms asc))) h)
    (λ o. ⊎_elim
    (λ less. subst (AreAbove k) (sym (with_front n (m ∷ ms) (less, above_less n m ms less (above m ms asc)))) (lt, h))
    (λ less. subst (AreAbove k) (sym (with_later n m ms less)) (
      h.0,
      above_with k n ms lt h.1 (ascending_after m ms asc),
    ))
    o)
    (cases_order n m)

-- the numbers ascend with one more
pub ascending_with : (n : ℕ) (ns : List ℕ) → IsAscending ns → IsAscending (with_community n ns)
ascending_with n [] asc = tt
ascending_with n (m ∷ ms) asc = ⊎_elim
    (λ e. subst IsAscending (sym (with_same n m ms e (above m ms asc))) asc)
    (λ o. ⊎_elim
    (λ less. subst IsAscending (sym (with_front n (m ∷ ms) (less, above_less n m ms less (above m ms asc)))) (
      less,
      asc,
    ))
    (λ less. subst IsAscending (sym (with_later n m ms less))
    (ascending_with_front m (with_community n ms) (above_with m n ms less (above m ms asc) (ascending_after m ms asc))
    (ascending_with n ms (ascending_after m ms asc))))
    o)
    (cases_order n m)

-- WHERE A SEARCH BY HALVES ENDS

above_at : (n : ℕ) (ns : List ℕ) (j d : ℕ) → AreAbove n ns → j < length ns → n < slice_index_or ns j d
above_at n [] j d h lt = absurd (omega (arith, lt))
above_at n (m ∷ ms) zero d h lt = h.0
above_at n (m ∷ ms) (suc j) d h lt = above_at n ms j d h.1 (omega (arith, lt))

pub parted : (n : ℕ) (ns : List ℕ) → IsAscending ns → IsPartitionedBy (λ m. nat_lt m n) ns
parted n [] asc i j d le lt is = absurd (omega (arith, lt))
parted n (m ∷ ms) asc zero zero d le lt is = is
parted n (m ∷ ms) asc zero (suc j) d le lt is =
    lt-ltb m n (omega (
      arith,
      above_at m ms j d (above m ms asc) (omega (arith, lt)),
      ltb-true (slice_index_or ms j d) n is,
    ))
parted n (m ∷ ms) asc (suc i) zero d le lt is = absurd (omega (arith, le))
parted n (m ∷ ms) asc (suc i) (suc j) d le lt is = parted n ms (ascending_after m ms asc) i j d (omega (arith, le))
    (omega (arith, lt)) is

-- put in where those below it end, it stands at its place
pub at_place : (n : ℕ) (ns : List ℕ) (at : ℕ) → IsAscending ns → carries n ns ≡ false → at ≤ length ns
    → IsPartitionPoint (λ m. nat_lt m n ≡ true) (λ m. nat_lt m n ≡ false) ns at → insert ns at n ≡ with_community n ns
at_place n [] zero asc absent le point = refl
at_place n [] (suc at) asc absent le point = absurd (omega (arith, le))
at_place n (m ∷ ms) zero asc absent le point =
    let other = or_parts (nat_eq n m) (carries n ms) absent in
    let not_less : n ≤ m = ltb-false m n (point.1 0 m (omega arith) (omega arith)) in
    let less : n < m = omega (arith, not_less, eqb-false n m other.0) in
    sym (with_front n (m ∷ ms) (less, above_less n m ms less (above m ms asc)))
at_place n (m ∷ ms) (suc at) asc absent le point =
    let other = or_parts (nat_eq n m) (carries n ms) absent in
    let less : m < n = ltb-true m n (point.0 0 m (omega arith) (omega arith)) in
    let rest = at_place n ms at (ascending_after m ms asc) other.1 (omega (arith, le)) (
      (λ k d from to. point.0 (suc k) d (omega arith) (omega (arith, to))),
      (λ k d from to. point.1 (suc k) d (omega (arith, from)) (omega (arith, to))),
    ) in
    ap (λ ks. m ∷ ks) rest ∙ sym (with_later n m ms less)
