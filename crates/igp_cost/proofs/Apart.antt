-- Rows in two lists, the second above the first.
use Rattle.std.proofs.Common.{◌≡◌, ℕ, zero, suc, ◌+◌, ◌-◌, ◌<◌, ◌≤◌, ◌≢◌, Bool, true, false, cond, List, [], ◌∷◌, ◌++◌, take, drop, length, get_or, Option, Some, None, refl, sym, ap, ◌∙◌, subst, inl, inr, arith}
use Rattle.std.specs.List.{insert, slice_get}
use Rattle.std.specs.Map.{lookup}
use Rattle.std.specs.BTreeMap.{is_at}
use Rattle.std.proofs.lemmas.Bool.{cases_lt}
use Rattle.std.proofs.lemmas.Option.{none-some, same_Some}
use Rattle.std.proofs.lemmas.List.{append_assoc, length-append, take-append-drop, take_all, drop_all, get_or_append_left, get_or-append-add}
use Rattle.net_prefix.specs.declared.addr.Addr.{Addr}
use Rattle.net_prefix.specs.Address.{addr_cmp}
use Rattle.igp_cost.specs.declared.label.Label.{Label}
use Rattle.igp_cost.specs.Offers.{HasOneMore}
use Rattle.igp_cost.specs.Trees.{Reached, source_of, label_in}
use Rattle.igp_cost.specs.Wired.{no_row, AreAscending, AreBelow}
use Rattle.igp_cost.proofs.OneMore.{insert_rises, insert_others}
use Rattle.igp_cost.proofs.Places.{lookup_none}

abbrev Rows : Type 0
Rows = List (Addr × Label)

abbrev number : Rows → ℕ → ℕ
number rows i = (get_or rows i no_row).0.0

at_front : (a b : Rows) (i : ℕ) → i < length a → number (a ++ b) i ≡ number a i
at_front a b i lt = ap (λ (e : Addr × Label). e.0.0) (get_or_append_left a b no_row i lt)

at_back : (a b : Rows) (i : ℕ) → number (a ++ b) (length a + i) ≡ number b i
at_back a b i = ap (λ (e : Addr × Label). e.0.0) (get_or-append-add a b i no_row)

-- each of the two rises
pub front_rises : (a b : Rows) → AreAscending (a ++ b) → AreAscending a
front_rises a b rising i j lt in_a = omega (
  arith,
  at_front a b i (omega (arith, lt, in_a)),
  at_front a b j in_a,
  rising i j lt (omega (arith, in_a, length-append a b)),
)

pub back_rises : (a b : Rows) → AreAscending (a ++ b) → AreAscending b
back_rises a b rising i j lt in_b = omega (
  arith,
  at_back a b i,
  at_back a b j,
  rising (length a + i) (length a + j) (omega (arith, lt)) (omega (arith, in_b, length-append a b)),
)

-- what is above the last of the second list is above both
pub below_by_back : (a b : Rows) (x : Addr) → AreAscending (a ++ b) → 0 < length b → AreBelow b x → AreBelow (a ++ b) x
below_by_back a b x rising some below i lt =
    let end : number (a ++ b) (length a + (length b - 1)) < x.0 = omega (
      arith,
      at_back a b (length b - 1),
      below (length b - 1) (omega (arith, some)),
    ) in
    elim (cases_lt i (length a + (length b - 1))) [
      | inl before ↦ omega (
        arith,
        end,
        rising i (length a + (length b - 1)) before (omega (arith, some, length-append a b)),
      )
      | inr after ↦
          let same : i ≡ length a + (length b - 1) = omega (arith, after, lt, some, length-append a b) in
          omega (arith, end, ap (number (a ++ b)) same)
    ]

-- a label is that of the first list, or where that has none of the second
pub found_front : (a b : Rows) (x : Addr) (l : Label) → lookup (is_at (addr_cmp x)) a ≡ Some l →
    lookup (is_at (addr_cmp x)) (a ++ b) ≡ Some l
found_front [] b x l is = absurd (none-some l is)
found_front (e ∷ a) b x l is = by (is_at (addr_cmp x) e.0) refl is (found_front a b x l)
  where
    by : (t : Bool) → is_at (addr_cmp x) e.0 ≡ t → cond t (Some e.1) (lookup (is_at (addr_cmp x)) a) ≡ Some l →
        (lookup (is_at (addr_cmp x)) a ≡ Some l → lookup (is_at (addr_cmp x)) (a ++ b) ≡ Some l) →
        cond t (Some e.1) (lookup (is_at (addr_cmp x)) (a ++ b)) ≡ Some l
    by true at here later = here
    by false at there later = later there

pub found_back : (a b : Rows) (x : Addr) → lookup (is_at (addr_cmp x)) a ≡ None →
    lookup (is_at (addr_cmp x)) (a ++ b) ≡ lookup (is_at (addr_cmp x)) b
found_back [] b x none = refl
found_back (e ∷ a) b x none = by (is_at (addr_cmp x) e.0) refl none (found_back a b x)
  where
    by : (t : Bool) → is_at (addr_cmp x) e.0 ≡ t → cond t (Some e.1) (lookup (is_at (addr_cmp x)) a) ≡ None →
        (lookup (is_at (addr_cmp x)) a ≡ None → lookup (is_at (addr_cmp x)) (a ++ b) ≡ lookup (is_at (addr_cmp x)) b) →
        cond t (Some e.1) (lookup (is_at (addr_cmp x)) (a ++ b)) ≡ lookup (is_at (addr_cmp x)) b
    by true at there later = absurd (none-some e.1 (sym there))
    by false at there later = later there

-- an address that is above all rows has none
pub above_all : (rows : Rows) (x : Addr) → AreBelow rows x → lookup (is_at (addr_cmp x)) rows ≡ None
above_all rows x below = lookup_none no_row rows x (λ i lt same. omega (arith, below i lt, ap (λ (y : Addr). y.0) same))

-- a row more at the end
module _ (rows : Rows) (e : Addr × Label) where
  at_end : insert rows (length rows) e ≡ rows ++ e ∷ []
  at_end = ap (λ front. front ++ e ∷ drop (length rows) rows) (take_all (length rows) rows (omega arith))
      ∙ ap (λ back. rows ++ e ∷ back) (drop_all (length rows) rows (omega arith))

  pub pushed_rises : AreAscending rows → AreBelow rows e.0 → AreAscending (rows ++ e ∷ [])
  pushed_rises rising below =
      subst AreAscending at_end (insert_rises rows (length rows) e rising (omega arith) below
      (λ i le lt. absurd (omega (arith, le, lt))))

  pub pushed_others : (x : Addr) → x ≢ e.0 → lookup (is_at (addr_cmp x)) (rows ++ e ∷ [])
      ≡ lookup (is_at (addr_cmp x)) rows
  pushed_others x differs = ap (λ (l : Rows). lookup (is_at (addr_cmp x)) l) (sym at_end)
      ∙ insert_others rows (length rows) e x differs

-- a tree of the rows of another, with one more above them
pub one_more_above : (t : Reached) (e : Addr × Label) (made : Reached) → AreAscending t.labels → AreBelow t.labels e.0 →
    made ≡ record { source = source_of t; labels = t.labels ++ e ∷ [] } → HasOneMore t e.0 made
one_more_above t e made rising below is = record {
  rows = t.labels ++ e ∷ [];
  is = is;
  ascending = pushed_rises t.labels e rising below;
  unknown = above_all t.labels e.0 below;
  others = λ y differs. ap (λ (t : Reached). label_in t y) is ∙ pushed_others t.labels e y differs;
}

-- a row that stands at a place
pub stands : (rows : Rows) (i : ℕ) (e : Addr × Label) → slice_get rows i ≡ Some e → (i < length rows)
    × (get_or rows i no_row ≡ e)
stands [] i e is = absurd (none-some e is)
stands (f ∷ rows) zero e is = (omega arith, same_Some _ _ is)
stands (f ∷ rows) (suc i) e is = let later = stands rows i e is in (omega (arith, later.0), later.1)

-- lists are the same where their fronts are, of one length, and the rest
pub same_fronts : (a b c d : Rows) → length a ≡ length c → a ++ b ≡ c ++ d → (a ≡ c) × (b ≡ d)
same_fronts [] b [] d count same = (refl, same)
same_fronts [] b (f ∷ c) d count same = absurd (omega (arith, count))
same_fronts (e ∷ a) b [] d count same = absurd (omega (arith, count))
same_fronts (e ∷ a) b (f ∷ c) d count same =
    let later = same_fronts a b c d (omega (arith, count)) (ap (drop 1) same) in
    let first : e ≡ f = ap (λ (l : Rows). get_or l 0 no_row) same in
    (ap (λ x. x ∷ a) first ∙ ap (λ l. f ∷ l) later.0, later.1)

-- the lists are the same where both parts are
pub same_joined : (a b c d : Rows) → a ≡ c → b ≡ d → a ++ b ≡ c ++ d
same_joined a b c d first second = ap (λ l. l ++ b) first ∙ ap (λ l. c ++ l) second

-- a list is its front and the rest
pub front_and_rest : (rows front rest : Rows) (n : ℕ) → front ≡ take n rows → rest ≡ drop n rows → front ++ rest ≡ rows
front_and_rest rows front rest n first second = same_joined front rest (take n rows) (drop n rows) first second
    ∙ take-append-drop n rows
