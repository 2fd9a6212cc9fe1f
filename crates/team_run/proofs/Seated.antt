-- Engineers who take their seats one after another.
use Rattle.std.proofs.Common.{◌≡◌, ℕ, ◌+◌, List, [], ◌∷◌, ◌++◌, length, sym, ap, ◌∙◌, append_assoc}
use Rattle.std.proofs.lemmas.List.{length_push}
use Rattle.room.specs.Books.{SeatBook}
use Rattle.team_run.specs.Playing.{Engineering, engineers_of}

-- one engineer more
pub seated_more : (all engineers : List Engineering) (script : List ℕ) (scripts : List (List ℕ)) (seat : SeatBook)
    (seats : List SeatBook) (engineer : Engineering)
    → engineer ≡ record { file = length engineers + 1; script = script; seat = seat }
    → all ≡ engineers ++ engineers_of (length engineers + 1) (script ∷ scripts) (seat ∷ seats)
    → all ≡ (engineers ++ engineer ∷ []) ++ engineers_of (length (engineers ++ engineer ∷ []) + 1) scripts seats
seated_more all engineers script scripts seat seats engineer is so =
    let later = engineers_of (length engineers + 1 + 1) scripts seats in
    so
    ∙ ap (λ (e : Engineering). engineers ++ (e ∷ later)) (sym is)
    ∙ sym (append_assoc engineers (engineer ∷ []) later)
    ∙ ap (λ n. (engineers ++ engineer ∷ []) ++ engineers_of (n + 1) scripts seats)
    (sym (length_push engineers engineer))
