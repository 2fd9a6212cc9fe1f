-- Lists that grow by what is said of one item at a time.
use Rattle.std.proofs.Common.{◌≡◌, ℕ, ◌+◌, ◌<◌, suc, length, List, [], ◌∷◌, ◌++◌, take, Option, Some, None, refl, sym, ap, ◌∙◌, append-nil, append_assoc, arith}
use Rattle.std.proofs.Math.Seq.{take-suc}
use Rattle.std.proofs.lemmas.Option.{slice_get_within, get_or_from_slice_get}
use Rattle.std.specs.List.{filter_map, cons_option, slice_get}
use Rattle.std.specs.Option.{option_to_list}

-- one item more was taken
pub one_more : {A : Type 0} (all : List A) (n : ℕ) (x : A) → slice_get all n ≡ Some x →
    take (n + 1) all ≡ take n all ++ x ∷ []
one_more all n x is =
    let next : n + 1 ≡ suc n = omega arith in
    ap (λ k. take k all) next ∙ take-suc all n x (slice_get_within all n x is)
    ∙ ap (λ y. take n all ++ y ∷ []) (get_or_from_slice_get all n x x is)

-- a walk has fewer items left
pub fewer_left : {A : Type 0} (left after : List A) (x : A) → left ≡ x ∷ after → length after < length left
fewer_left left after x is = let same = ap length is in omega (arith, same)

module _ {A B : Type 0} (f : A → Option B) where
  one_or_none : (x : Option B) (l : List B) → (option_to_list x ++ l) ≡ cons_option x l
  one_or_none None l = refl
  one_or_none (Some b) l = refl

  -- of all items nothing was said
  pub said_none : (said : List B) (left all : List A) → said ≡ [] → left ≡ all →
      said ++ filter_map f left ≡ filter_map f all
  said_none said left all nothing same = λ i. nothing i ++ filter_map f (same i)

  -- what is said of the next item was added
  pub said_more : (said more : List B) (left after : List A) (x : A) (all : List B) →
      more ≡ said ++ option_to_list (f x) → left ≡ x ∷ after → said ++ filter_map f left ≡ all →
      more ++ filter_map f after ≡ all
  said_more said more left after x all added next is =
      ap (λ l. l ++ filter_map f after) added
      ∙ append_assoc said (option_to_list (f x)) (filter_map f after)
      ∙ ap (λ l. said ++ l) (one_or_none (f x) (filter_map f after))
      ∙ ap (λ l. said ++ filter_map f l) (sym next)
      ∙ is

  -- and none is left
  pub said_all : (said : List B) (left : List A) (all : List B) → left ≡ [] →
      said ++ filter_map f left ≡ all → said ≡ all
  said_all said left all none is = sym (append-nil said) ∙ ap (λ l. said ++ filter_map f l) (sym none) ∙ is
