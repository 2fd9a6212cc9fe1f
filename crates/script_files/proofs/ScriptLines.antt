-- The first line of a script, and the others.
use Rattle.std.proofs.Common.{◌≡◌, ℕ, ◌+◌, ◌-◌, ◌<◌, ◌≤◌, eqb, List, [], ◌∷◌, length, take, drop, get_or, position, Some, None, sym, ap, ◌∙◌, arith}
use Rattle.std.specs.Str.Lines.{lines, strip_carriage_return}
use Rattle.watched.specs.LineFeeds.{is_line_feed, cut_at, no_cut}
use Rattle.watched.proofs.Lines.{lines_cut, lines_whole}
use Rattle.std.proofs.lemmas.Bool.{cond_both}
use Rattle.std.proofs.lemmas.List.{length-take-le, nil_from_length}

-- there are no bytes
pub no_lines : (bytes : List ℕ) → length bytes ≡ 0 → lines bytes ≡ []
no_lines bytes none = ap lines (nil_from_length bytes none)

-- the first line feed is at n
pub lines_first : (bytes : List ℕ) (n : ℕ) → position is_line_feed bytes ≡ Some n →
    lines bytes ≡ strip_carriage_return (take n bytes) ∷ lines (drop (n + 1) bytes)
lines_first bytes n is =
    let cut = cut_at bytes n is in
    ap lines cut.2 ∙ lines_cut (take n bytes) (drop (n + 1) bytes) cut.1

-- there is none
pub lines_last : (bytes rest : List ℕ) → 0 < length bytes → position is_line_feed bytes ≡ None → length rest ≡ 0 →
    lines bytes ≡ bytes ∷ lines rest
lines_last bytes rest some is none = lines_whole bytes (no_cut bytes is) some
    ∙ ap (λ ls. bytes ∷ ls) (sym (no_lines rest none))

-- a line without its carriage return is no longer
pub strip_shorter : (line : List ℕ) → length (strip_carriage_return line) ≤ length line
strip_shorter line =
    let last = length line - 1 in
    cond_both (eqb (get_or line last 0) 13) (take last line) line (λ t. length t ≤ length line)
    (λ _. omega (arith, length-take-le last line (omega arith))) (λ _. omega arith)

pub ruleset rows = (no_lines, lines_first, lines_last)
