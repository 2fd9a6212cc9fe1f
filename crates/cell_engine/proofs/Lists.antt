-- One more item of a list that is mapped where the function gives something.
use Rattle.std.proofs.Common.{◌≡◌, ℕ, ◌+◌, ◌<◌, List, [], ◌∷◌, ◌++◌, Option, Some, None, take, length, get_or, fold, refl, sym, ap, ◌∙◌}
use Rattle.std.proofs.lemmas.List.Sums.{fold-append}
use Rattle.std.specs.List.{filter_map, cons_option}
use Rattle.std.specs.Option.{option_to_list}
use Rattle.std.proofs.lemmas.List.{take_more}
use Rattle.std.proofs.lemmas.List.Elements.{filter_map-append}

cons_option-nil : {Y : Type 0} (o : Option Y) → cons_option o [] ≡ option_to_list o
cons_option-nil None = refl
cons_option-nil (Some y) = refl

pub filter_map_more : {X Y : Type 0} (h : X → Option Y) (xs : List X) (i : ℕ) (d : X) → i < length xs →
    filter_map h (take (i + 1) xs) ≡ filter_map h (take i xs) ++ option_to_list (h (get_or xs i d))
filter_map_more h xs i d lt = ap (filter_map h) (take_more xs i d lt)
    ∙ filter_map-append h (take i xs) (get_or xs i d ∷ [])
    ∙ ap (λ ys. filter_map h (take i xs) ++ ys) (cons_option-nil (h (get_or xs i d)))

-- what was pushed last is what the next item gives
pub filter_map_pushed : {X Y : Type 0} (h : X → Option Y) (xs : List X) (i : ℕ) (x : X) (y : Option Y)
    (ys zs : List Y) → i < length xs → x ≡ get_or xs i x → y ≡ h x → ys ≡ filter_map h (take i xs) →
    zs ≡ ys ++ option_to_list y → zs ≡ filter_map h (take (i + 1) xs)
filter_map_pushed h xs i x y ys zs lt at gives so_far pushed = pushed ∙ ap (λ ws. ws ++ option_to_list y) so_far
    ∙ ap (λ o. filter_map h (take i xs) ++ option_to_list o) (gives ∙ ap h at) ∙ sym (filter_map_more h xs i x lt)

-- what the items so far lead to, with what the next item gives
pub folded_more : {X Y Z : Type 0} (f : Z → Y → Z) (h : X → Option Y) (xs : List X) (i : ℕ) (x : X) (z z' z'' : Z) →
    i < length xs → x ≡ get_or xs i x → z' ≡ fold f z (filter_map h (take i xs)) →
    z'' ≡ fold f z' (option_to_list (h x)) → z'' ≡ fold f z (filter_map h (take (i + 1) xs))
folded_more f h xs i x z z' z'' lt at so_far more =
    more
    ∙ ap (λ w. fold f w (option_to_list (h x))) so_far
    ∙ sym (fold-append f z (filter_map h (take i xs)) (option_to_list (h x)))
    ∙ ap (fold f z) (filter_map_pushed h xs i x (h x) (filter_map h (take i xs))
    (filter_map h (take i xs) ++ option_to_list (h x)) lt at refl refl refl)
