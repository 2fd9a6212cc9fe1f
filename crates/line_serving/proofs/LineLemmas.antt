-- Which lines stand in bytes that are read piece by piece.
use Rattle.std.proofs.Common.{◌≡◌, ℕ, ◌+◌, cond, eqb, false, List, [], ◌∷◌, ◌++◌, length, take, drop, position, Some, refl, sym, ap, ◌∙◌, arith, append_assoc, append-nil, filter}
use Rattle.std.specs.Str.Lines.{lines, strip_carriage_return}
use Rattle.watched.specs.LineFeeds.{is_line_feed, Whole, cut_at}
use Rattle.watched.proofs.Lines.{lines_cut}
use Rattle.line_serving.specs.Serving.{line_feeds}
use Rattle.std.proofs.lemmas.List.{length-append}
use Rattle.std.proofs.lemmas.List.Elements.{All-tail, filter-append}

pub lines_first : (bytes rest : List ℕ) (n : ℕ) → position is_line_feed bytes ≡ Some n →
    lines (bytes ++ rest) ≡ strip_carriage_return (take n bytes) ∷ lines (drop (n + 1) bytes ++ rest)
lines_first bytes rest n is =
    let cut = cut_at bytes n is in
    ap (λ t. lines (t ++ rest)) cut.2 ∙ ap lines (append_assoc (take n bytes) (10 ∷ drop (n + 1) bytes) rest)
    ∙ lines_cut (take n bytes) (drop (n + 1) bytes ++ rest) cut.1

-- HOW MANY LINES WERE READ WHOLE

no_line_feeds : (bytes : List ℕ) → Whole bytes → filter is_line_feed bytes ≡ []
no_line_feeds [] whole = refl
no_line_feeds (b ∷ more) whole =
    ap (λ t. cond t (b ∷ filter is_line_feed more) (filter is_line_feed more)) (whole 0 0 (omega arith))
    ∙ no_line_feeds more (All-tail (λ x. eqb x 10 ≡ false) b more whole)

-- bytes with no line feed make no more lines
pub line_feeds_none : (given bytes : List ℕ) → Whole bytes → line_feeds (given ++ bytes) ≡ line_feeds given
line_feeds_none given bytes whole =
    ap length (filter-append is_line_feed given bytes
    ∙ ap (λ t. filter is_line_feed given ++ t) (no_line_feeds bytes whole) ∙ append-nil (filter is_line_feed given))

-- a line feed behind them makes one
pub line_feeds_line : (given front : List ℕ) → Whole front →
    line_feeds (given ++ (front ++ 10 ∷ [])) ≡ line_feeds given + 1
line_feeds_line given front whole =
    ap line_feeds (sym (append_assoc given front (10 ∷ [])))
    ∙ ap length (filter-append is_line_feed (given ++ front) (10 ∷ []))
    ∙ length-append (filter is_line_feed (given ++ front)) (10 ∷ [])
    ∙ ap (λ n. n + 1) (line_feeds_none given front whole)
