use Rattle.std.proofs.Common.{◌++◌, length, inl, inr, arith, ap, ◌∙◌, sym, take}
use Rattle.std.specs.Str.Lines.{strip_carriage_return}
use Rattle.std.proofs.lemmas.Bool.{eqb-false}
use Rattle.std.proofs.lemmas.List.{length-append}
use Rattle.watched.specs.Limits.{most_bytes}
use Rattle.watched.specs.LineFeeds.{no_cut}
use Rattle.watched.proofs.Lines.{lines_begin, lines_long}
use Rattle.line_serving.proofs.LineLemmas.{lines_first}
use Rattle.line_serving.proofs.line.next_line.Goals as goal

pub returns-then-not-is_empty : goal.returns-then-not-is_empty
returns-then-not-is_empty c = λ rest.
    let pending = c.args.pending.now in
    let len = ap length c.as_slice-bytes.ensures in
    let none = eqb-false (length c.as_slice-bytes.result.now) 0 (sym c.is_empty.ensures ∙ c.if-not-is_empty.true) in
    let begins = lines_begin (pending ++ rest) (omega (arith, length-append pending rest)) in
    (begins.0, begins.1, begins.2, inl (omega arith))

pub returns-in_default : goal.returns-in_default
returns-in_default c = λ rest.
    let pending = c.args.pending.now in
    let first = lines_first pending rest c.in-Some.end (sym c.line_feed_at.ensures ∙ c.in-Some.is) in
    let same = c.without_carriage_return.ensures
    ∙ ap (λ b. strip_carriage_return (take c.in-Some.end b)) c.as_slice-bytes.ensures in
    let len = ap length same in
    (_, _, first, inr (omega arith))

pub returns-in_default-2 : goal.returns-in_default-2
returns-in_default-2 c = λ rest.
    let pending = c.args.pending.now in
    let len = ap length c.as_slice-bytes.ensures in
    let long = lines_long pending rest most_bytes (no_cut pending (sym c.line_feed_at.ensures ∙ c.in-None.is))
    (omega arith) in
    (long.0, long.1, long.2, inr long.3)
