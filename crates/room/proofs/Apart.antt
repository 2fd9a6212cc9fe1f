-- Jobs of which no two decide one cell.
use Rattle.std.proofs.Common.{◌≡◌, List, [], ◌∷◌, ◌++◌, Bool, true, false, All, sym, subst}
use Rattle.std.specs.Prelude.{◌≢◌, if◌then◌else◌}
use Rattle.std.proofs.lemmas.List.Elements.{All-nil, All-head, All-tail, All-push}
use Rattle.room.specs.Jobs.{Job, AreApart, cell_of}

-- one more, of a cell that none of them decides
pub apart_push : (xs : List Job) (y : Job) → AreApart xs → All (λ x. cell_of x ≢ cell_of y) xs → AreApart (xs ++ y ∷ [])
apart_push [] y apart none = (All-nil (λ z. cell_of y ≢ cell_of z), tt)
apart_push (x ∷ xs) y apart none = (
  All-push (λ z. cell_of x ≢ cell_of z) xs y apart.0 (All-head (λ z. cell_of z ≢ cell_of y) x xs none),
  apart_push xs y apart.1 (All-tail (λ z. cell_of z ≢ cell_of y) x xs none),
)

-- pushed, where there was memory
pub apart_pushed : (is : Bool) (xs ys : List Job) (y : Job) → ys ≡ (if is then xs ++ y ∷ [] else xs) → AreApart xs →
    All (λ x. cell_of x ≢ cell_of y) xs → AreApart ys
apart_pushed true xs ys y e apart none = subst AreApart (sym e) (apart_push xs y apart none)
apart_pushed false xs ys y e apart none = subst AreApart (sym e) apart
