-- What a walk pushed so far.
use Rattle.std.proofs.Common.{◌≡◌, ◌<◌, ◌+◌, ℕ, List, [], ◌∷◌, ◌++◌, Option, Some, None, length, get_or, take, refl, sym, ap, ◌∙◌}
use Rattle.std.specs.List.{filter_map, cons_option}
use Rattle.std.specs.Option.{option_to_list}
use Rattle.std.proofs.lemmas.List.{take_more}
use Rattle.std.proofs.lemmas.List.Elements.{filter_map-append}

pub cons_option-nil : {Y : Type 0} (o : Option Y) → cons_option o [] ≡ option_to_list o
cons_option-nil None = refl
cons_option-nil (Some y) = refl

filter_map_more : {X Y : Type 0} (h : X → Option Y) (xs : List X) (i : ℕ) (d : X) → i < length xs →
    filter_map h (take (i + 1) xs) ≡ filter_map h (take i xs) ++ option_to_list (h (get_or xs i d))
filter_map_more h xs i d lt = ap (filter_map h) (take_more xs i d lt)
    ∙ filter_map-append h (take i xs) (get_or xs i d ∷ [])
    ∙ ap (λ ys. filter_map h (take i xs) ++ ys) (cons_option-nil (h (get_or xs i d)))

-- what was pushed last is what the next item gives
pub filter_map_pushed : {X Y : Type 0} (h : X → Option Y) (xs : List X) (i : ℕ) (x : X) (y : Option Y)
    (ys zs : List Y) → i < length xs → x ≡ get_or xs i x → y ≡ h x → ys ≡ filter_map h (take i xs) →
    zs ≡ ys ++ option_to_list y → zs ≡ filter_map h (take (i + 1) xs)
filter_map_pushed h xs i x y ys zs lt at gives so_far pushed = pushed ∙ ap (λ ws. ws ++ option_to_list y) so_far
    ∙ ap (λ o. filter_map h (take i xs) ++ option_to_list o) (gives ∙ ap h at) ∙ sym (filter_map_more h xs i x lt)
