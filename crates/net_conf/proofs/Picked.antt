-- What is made of the keys that pass a test.
use Rattle.std.proofs.Common.{◌≡◌, Bool, true, false, ◌&&◌, List, [], ◌∷◌, map, filter, is_some, refl, sym}
use Rattle.std.specs.declared.cmp.Ordering.{Ordering}
use Rattle.std.specs.declared.cmp.Ordering.TheVariants.{Less}
use Rattle.std.specs.List.{AllByRecursion, list_any}
use Rattle.std.specs.List.Sorted.{IsStrictlySortedBy}
use Rattle.std.specs.Map.{keys_of, lookup}

abbrev pub picked : {K X B : Type 0} → (K → Bool) → (K → B) → List (K × X) → List B
picked p g es = map (λ e. g e.0) (filter (λ e. p e.0) es)

-- in order, where each step up of the keys is one of what is made of them
module _ {K X B : Type 0} (cmp : K → K → Ordering) (below : B → B → Ordering) (Q : K → Type 0) (p : K → Bool) (g : K →
    B) (step : (x y : K) → Q x → Q y → p x ≡ true → p y ≡ true → cmp x y ≡ Less → below (g x) (g y) ≡ Less) where
  above : (k : K) → Q k → p k ≡ true → (es : List (K × X)) → AllByRecursion Q (keys_of es) →
      AllByRecursion (λ y. cmp k y ≡ Less) (keys_of es) → AllByRecursion (λ y. below (g k) y ≡ Less) (picked p g es)
  above k qk pk [] qs past = tt
  above k qk pk (e ∷ es) qs past = by (p e.0) refl (above k qk pk es qs.1 past.1)
    where
      by : (b : Bool) → p e.0 ≡ b → AllByRecursion (λ y. below (g k) y ≡ Less) (picked p g es) →
          AllByRecursion (λ y. below (g k) y ≡ Less) (picked p g (e ∷ es))
      by true is rest = rw is (step k e.0 qk qs.0 pk is past.0, rest)
      by false is rest = rw is rest

  pub picked_in_order : (es : List (K × X)) → AllByRecursion Q (keys_of es) → IsStrictlySortedBy cmp (keys_of es) →
      IsStrictlySortedBy below (picked p g es)
  unfolding IsStrictlySortedBy
  picked_in_order [] qs sorted = tt
  picked_in_order (e ∷ es) qs sorted = by (p e.0) refl (picked_in_order es qs.1 sorted.1)
    where
      by : (b : Bool) → p e.0 ≡ b → IsStrictlySortedBy below (picked p g es) →
          IsStrictlySortedBy below (picked p g (e ∷ es))
      by true is rest = rw is (above e.0 qs.0 is es qs.1 sorted.0, rest)
      by false is rest = rw is rest

-- what is made of a key is found where the key is
module _ {K X B : Type 0} (Q : K → Type 0) (p : K → Bool) (g : K → B) (test : B → Bool) (at : K →
    Bool) (same : (k : K) → Q k → (p k && test (g k)) ≡ at k) where
  pub any_picked : (es : List (K × X)) → AllByRecursion Q (keys_of es) →
      list_any test (picked p g es) ≡ is_some (lookup at es)
  any_picked [] qs = refl
  any_picked (e ∷ es) qs = by (p e.0) (test (g e.0)) refl refl (same e.0 qs.0) (any_picked es qs.1)
    where
      by : (b t : Bool) → p e.0 ≡ b → test (g e.0) ≡ t → (b && t) ≡ at e.0 →
          list_any test (picked p g es) ≡ is_some (lookup at es) →
          list_any test (picked p g (e ∷ es)) ≡ is_some (lookup at (e ∷ es))
      by true true is tested found rest = rw is (rw tested (rw (sym found) refl))
      by true false is tested found rest = rw is (rw tested (rw (sym found) rest))
      by false t is tested found rest = rw is (rw (sym found) rest)

-- what is made of an element passes a test where the element does
module _ {A B : Type 0} (p : A → Bool) (g : A → B) (test : B → Bool) (at : A → Bool) (same : (a : A) →
    (p a && test (g a)) ≡ at a) where
  pub any_made : (xs : List A) → list_any test (map g (filter p xs)) ≡ list_any at xs
  any_made [] = refl
  any_made (x ∷ xs) = by (p x) (test (g x)) refl refl (same x) (any_made xs)
    where
      by : (b t : Bool) → p x ≡ b → test (g x) ≡ t → (b && t) ≡ at x →
          list_any test (map g (filter p xs)) ≡ list_any at xs →
          list_any test (map g (filter p (x ∷ xs))) ≡ list_any at (x ∷ xs)
      by true true is tested found rest = rw is (rw tested (rw (sym found) refl))
      by true false is tested found rest = rw is (rw tested (rw (sym found) rest))
      by false t is tested found rest = rw is (rw (sym found) rest)
