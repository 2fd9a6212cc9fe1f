-- Which lines stand in bytes.
use Rattle.std.proofs.Common.{◌≡◌, ℕ, ◌+◌, ◌-◌, ◌<◌, ◌≤◌, cond, eqb, ltb, false, ◌⊎◌, inl, inr, ⊎_elim, List, [], ◌∷◌, ◌++◌, length, take, drop, get_or, Some, None, refl, sym, ap, ◌∙◌, arith, append_assoc}
use Rattle.std.specs.List.{slice_split, position_or_len}
use Rattle.std.specs.Str.Lines.{lines, lines_of_parts, strip_carriage_return}
use Rattle.watched.specs.LineFeeds.{is_line_feed, Whole, cut_at, no_cut}
use Rattle.std.proofs.lemmas.Bool.{cases_Bool, cond_both, cond-false, ne_eqb}
use Rattle.std.proofs.lemmas.List.{length-take-le, length-append}
use Rattle.std.proofs.lemmas.List.Elements.{All-append}
use Rattle.std.proofs.lemmas.List.Splits.{slice_split_none, slice_split_at, length-slice_split}

lines_of_parts-cons : (x : List ℕ) (parts : List (List ℕ)) → 0 < length parts →
    lines_of_parts (x ∷ parts) ≡ strip_carriage_return x ∷ lines_of_parts parts
lines_of_parts-cons x [] l = absurd (omega arith)
lines_of_parts-cons x (y ∷ more) l = refl

-- a text with no line feed, a line feed, and more
pub lines_cut : (front rest : List ℕ) → Whole front →
    lines (front ++ 10 ∷ rest) ≡ strip_carriage_return front ∷ lines rest
lines_cut front rest whole =
    ap lines_of_parts (slice_split_at is_line_feed front 10 rest whole refl)
    ∙ lines_of_parts-cons front (slice_split is_line_feed rest) (omega (arith, length-slice_split is_line_feed rest))

-- a text with no line feed
pub lines_whole : (bytes : List ℕ) → Whole bytes → 0 < length bytes → lines bytes ≡ bytes ∷ []
lines_whole bytes whole some =
    ap lines_of_parts (slice_split_none is_line_feed bytes whole)
    ∙ cond-false (eqb (length bytes) 0) [] (bytes ∷ []) (ne_eqb (length bytes) 0 (λ z. omega arith))

-- a line loses one byte at most
pub strip_length : (line : List ℕ) → length line ≤ length (strip_carriage_return line) + 1
strip_length line =
    let last = length line - 1 in
    cond_both (eqb (get_or line last 0) 13) (take last line) line (λ t. length line ≤ length t + 1)
    (λ _. omega (arith, length-take-le last line (omega arith))) (λ _. omega arith)

-- a text has no line feed, or it is cut at the first
pub cases_cut : (bytes : List ℕ) → Whole bytes ⊎ ((front rest : List ℕ) × Whole front × (bytes ≡ front ++ 10 ∷ rest))
cases_cut bytes =
    let p = position_or_len is_line_feed bytes in
    ⊎_elim
    (λ t. let cut = cut_at bytes p (ap (λ b. cond b (Some p) None) t) in
    inr (take p bytes, drop (p + 1) bytes, cut.1, cut.2))
    (λ f. inl (no_cut bytes (ap (λ b. cond b (Some p) None) f)))
    (cases_Bool (ltb p (length bytes)))

-- bytes begin a line
pub lines_begin : (bytes : List ℕ) → 0 < length bytes → (line : List ℕ) × (more : List (List ℕ))
    × (lines bytes ≡ line ∷ more)
lines_begin bytes some = ⊎_elim
    (λ whole. (bytes, [], lines_whole bytes whole some))
    (λ cut. (strip_carriage_return cut.0, lines cut.1, ap lines cut.3 ∙ lines_cut cut.0 cut.1 cut.2))
    (cases_cut bytes)

-- n and two more bytes with no line feed begin a line of more than n bytes
pub lines_long : (bytes rest : List ℕ) (n : ℕ) → Whole bytes → n + 2 ≤ length bytes → (line : List ℕ)
    × (more : List (List ℕ)) × (lines (bytes ++ rest) ≡ line ∷ more) × (n < length line)
lines_long bytes rest n whole long = ⊎_elim
    (λ last. (
      bytes ++ rest,
      [],
      lines_whole (bytes ++ rest) (All-append (λ b. eqb b 10 ≡ false) bytes rest whole last)
          (omega (arith, length-append bytes rest)),
      omega (arith, length-append bytes rest),
    ))
    (λ cut. let front = bytes ++ cut.0 in (
      strip_carriage_return front,
      lines cut.1,
      ap (λ t. lines (bytes ++ t)) cut.3 ∙ ap lines (sym (append_assoc bytes cut.0 (10 ∷ cut.1)))
          ∙ lines_cut front cut.1 (All-append (λ b. eqb b 10 ≡ false) bytes cut.0 whole cut.2),
      omega (arith, strip_length front, length-append bytes cut.0),
    ))
    (cases_cut rest)
