-- A list that is filtered after it was mapped.
use Rattle.std.proofs.Common.{◌≡◌, Bool, true, false, cond, List, [], ◌∷◌, map, filter, refl, ap}

-- the same is left where the elements are filtered first
pub filter_mapped : {X Y : Type 0} (f : X → Y) (p : Y → Bool) (xs : List X) →
    filter p (map f xs) ≡ map f (filter (λ x. p (f x)) xs)
filter_mapped f p [] = refl
filter_mapped {X} {Y} f p (x ∷ xs) = by (p (f x)) (filter_mapped f p xs)
  where
    by : (b : Bool) → filter p (map f xs) ≡ map f (filter (λ x. p (f x)) xs) →
        cond b (f x ∷ filter p (map f xs)) (filter p (map f xs))
        ≡ map f (cond b (x ∷ filter (λ x. p (f x)) xs) (filter (λ x. p (f x)) xs))
    by true same = ap (λ (l : List Y). f x ∷ l) same
    by false same = same
