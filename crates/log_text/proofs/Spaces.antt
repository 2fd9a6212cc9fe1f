-- Words that are joined by spaces, cut where the pieces are that are written.
use Rattle.std.proofs.Common.{◌≡◌, ℕ, List, [], ◌∷◌, ◌++◌, refl, sym, ap, ◌∙◌, append_assoc, append-nil}
use Rattle.std.specs.List.{join_with_byte}
use Rattle.log_text.specs.Rules.{spaced}

pub spaced_both : (a b : List (List ℕ)) → spaced (a ++ b) ≡ spaced a ++ spaced b
spaced_both [] b = refl
spaced_both (w ∷ a) b = ap (λ t. (32 ∷ w) ++ t) (spaced_both a b) ∙ sym (append_assoc (32 ∷ w) (spaced a) (spaced b))

pub spaced_three : (a b c : List (List ℕ)) → spaced (a ++ b ++ c) ≡ spaced a ++ (spaced b ++ spaced c)
spaced_three a b c = spaced_both (a ++ b) c ∙ ap (λ t. t ++ spaced c) (spaced_both a b)
    ∙ append_assoc (spaced a) (spaced b) (spaced c)

pub spaced_four : (a b c d : List (List ℕ)) →
    spaced (a ++ b ++ c ++ d) ≡ spaced a ++ (spaced b ++ (spaced c ++ spaced d))
spaced_four a b c d =
    spaced_three (a ++ b) c d ∙ ap (λ t. t ++ (spaced c ++ spaced d)) (spaced_both a b)
    ∙ append_assoc (spaced a) (spaced b) (spaced c ++ spaced d)

-- the first word, and a space before each other one
pub join_first : (w : List ℕ) (ws : List (List ℕ)) → join_with_byte 32 (w ∷ ws) ≡ w ++ spaced ws
join_first w [] = sym (append-nil w)
join_first w (v ∷ vs) = ap (λ t. w ++ (32 ∷ t)) (join_first v vs)

-- more words after some
pub join_more : (w : List ℕ) (ws more : List (List ℕ)) →
    join_with_byte 32 (w ∷ (ws ++ more)) ≡ join_with_byte 32 (w ∷ ws) ++ spaced more
join_more w ws more =
    join_first w (ws ++ more) ∙ ap (λ t. w ++ t) (spaced_both ws more) ∙ sym (append_assoc w (spaced ws) (spaced more))
    ∙ ap (λ t. t ++ spaced more) (sym (join_first w ws))

-- some words, and then some more twice
pub join_three : (w : List ℕ) (ws a b : List (List ℕ)) →
    join_with_byte 32 (w ∷ (ws ++ (a ++ b))) ≡ join_with_byte 32 (w ∷ ws) ++ (spaced a ++ spaced b)
join_three w ws a b = join_more w ws (a ++ b) ∙ ap (λ t. join_with_byte 32 (w ∷ ws) ++ t) (spaced_both a b)
