-- Marked lines that are written piece by piece.
use Rattle.std.specs.Prelude.{◌≡◌, ℕ, List, [], ◌∷◌, ◌++◌, map, Result}
use Rattle.std.specs.Result.{IsErr}
use Rattle.std.specs.List.{flat_map}
use Rattle.std.proofs.Common.{refl, sym, ap, ◌∙◌, append_assoc, append-nil}
use Rattle.watched.specs.Streams.{Writing, Writes}
use Rattle.reply_text.specs.Lines.{marked}
use Rattle.reply_text.specs.Pieces.{WritesAll, WritesFront, writes_same, writes_cut, writes_next}

module _ {E : Type 0} where
  -- one line
  pub mark_cut : (old new : Writing) (mark line : List ℕ) (r : Result Unit E) → IsErr r → WritesFront old mark new →
      Writes old (marked mark (line ∷ [])) r new
  mark_cut old new mark line r is h = writes_same old new (mark ++ line) _ r (append-nil (mark ++ line))
      (writes_cut old new mark line r is h)

  pub mark_next : (old mid new : Writing) (mark line : List ℕ) (r : Result Unit E) → WritesAll old mark mid →
      Writes mid line r new → Writes old (marked mark (line ∷ [])) r new
  mark_next old mid new mark line r h g = writes_same old new (mark ++ line) _ r (append-nil (mark ++ line))
      (writes_next old mid new mark line r h g)

-- the lines of some items, and others after them
pub marked_each : {X : Type 0} (mark : List ℕ) (f : X → List ℕ) (xs : List X) (more : List (List ℕ)) →
    marked mark (map f xs ++ more) ≡ flat_map (λ x. mark ++ f x) xs ++ marked mark more
marked_each mark f [] more = refl
marked_each mark f (x ∷ xs) more =
    ap (λ t. (mark ++ f x) ++ t) (marked_each mark f xs more)
    ∙ sym (append_assoc (mark ++ f x) (flat_map (λ x. mark ++ f x) xs) (marked mark more))
