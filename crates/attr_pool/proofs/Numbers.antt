-- What becomes of a pool's numbers.
use Rattle.std.proofs.Common.{◌≡◌, ◌≢◌, ◌<◌, ◌+◌, ℕ, Bool, true, false, List, [], ◌∷◌, ◌++◌, length, slice_get, Some, refl, sym, ◌∙◌, arith, length-append, ltb, ⊎_elim, ap, get_or, if◌then◌else◌}
use Rattle.std.proofs.lemmas.Bool.{ltb-true, ltb-false}
use Rattle.std.proofs.lemmas.Option.{slice_get_within, get_or_from_slice_get, slice_get_read}
use Rattle.std.proofs.lemmas.List.{get_or_append_left}
use Rattle.std.proofs.lemmas.List.Folds.{list_any_at}
use Rattle.std.proofs.lemmas.Map.Made.{AllPairs-from_IsDistinct}
use Rattle.std.proofs.lemmas.Bool.Decides.{eqb_tells}
use Rattle.std.specs.List.{IsDistinct}
use Rattle.path_attr.specs.declared.attr.Attr.{Attr}
use Rattle.path_attr.specs.Attribute.{same_attr}
use Rattle.path_attr.specs.Sameness.{attrs_exact}
use Rattle.attr_pool.specs.Pooled.{has_attr, with_attr, KeepsNumbers, HaveOneNumber}

kept_by_push : (pool : List Attr) (last : Attr) → KeepsNumbers pool (pool ++ last ∷ [])
kept_by_push pool last n attr at =
    let within = slice_get_within pool n attr at in
    let longer : length pool + 1 ≡ length (pool ++ last ∷ []) = sym (length-append pool (last ∷ [])) in
    let read = get_or_append_left pool (last ∷ []) attr n within ∙ get_or_from_slice_get pool n attr attr at in
    slice_get_read (pool ++ last ∷ []) (length pool + 1) n attr longer (omega arith) (sym read)

-- a pool that grows keeps its numbers
pub numbers_kept : (pool : List Attr) (attr : Attr) → KeepsNumbers pool (with_attr pool attr)
numbers_kept pool attr = by (has_attr pool attr)
  where
    by : (b : Bool) → KeepsNumbers pool (if b then pool else pool ++ attr ∷ [])
    by true = λ n attr at. at
    by false = kept_by_push pool attr

module _ (pool : List Attr) (distinct : IsDistinct same_attr pool) where
  apart : (m n : ℕ) (attr : Attr) → slice_get pool m ≡ Some attr → slice_get pool n ≡ Some attr → m < n → m ≡ n
  apart m n attr here there less =
      let one = get_or_from_slice_get pool m attr attr here in
      let other = get_or_from_slice_get pool n attr attr there in
      absurd (AllPairs-from_IsDistinct attrs_exact pool distinct m n attr less (slice_get_within pool n attr there) (one
      ∙ sym other))

  -- attributes that stand once have one number
  pub one_number : HaveOneNumber pool
  one_number m n attr here there = ⊎_elim (λ e. e.1) (λ e. ordered e.1 (ltb m n) refl) (eqb_tells m n)
    where
      ordered : m ≢ n → (b : Bool) → ltb m n ≡ b → m ≡ n
      ordered differ true e = apart m n attr here there (ltb-true m n e)
      ordered differ false e = sym (apart n m attr there here (omega (arith, ltb-false m n e, differ)))

-- who has a number is in the pool
pub has_of_number : (pool : List Attr) (n : ℕ) (attr : Attr) → slice_get pool n ≡ Some attr → has_attr pool attr ≡ true
has_of_number pool n attr at =
    list_any_at (same_attr attr) pool n attr (slice_get_within pool n attr at)
    ((attrs_exact attr (get_or pool n attr)).1 (sym (get_or_from_slice_get pool n attr attr at)))

-- and is not put in once more
pub with_present : (pool : List Attr) (n : ℕ) (attr : Attr) → slice_get pool n ≡ Some attr → pool ≡ with_attr pool attr
with_present pool n attr at = ap (λ b. if b then pool else pool ++ attr ∷ []) (sym (has_of_number pool n attr at))
