use Rattle.std.proofs.Common.{◌≡◌, ℕ, ◌+◌, List, length, ◌++◌, ◌∷◌, [], ◌∙◌, ap, sym, append-nil}
use Rattle.std.specs.List.{flat_map}
use Rattle.reply_text.specs.Lines.{marked}
use Rattle.reply_text.specs.Replies.{end_line, hop_line, trace_end_line}
use Rattle.reply_text.proofs.Marks.{marked_each}
use Rattle.reply_text.specs.Pieces.{writes_same, writes_cut, writes_next}
use Rattle.reply_text.proofs.marked.write_marked_trace.Goals as goal

-- two lines after some
two_more : (front mark a b : List ℕ) → front ++ marked mark (a ∷ b ∷ []) ≡ front ++ ((mark ++ a) ++ (mark ++ b))
two_more front mark a b = ap (λ t. front ++ ((mark ++ a) ++ t)) (append-nil (mark ++ b))

pub returns-in_err-write_each_marked : goal.returns-in_err-write_each_marked
returns-in_err-write_each_marked g c =
    let mark = c.args.mark.now in
    let last = end_line (length c.args.hops.now + 1) in
    let ending = trace_end_line c.args.end in
    let front = flat_map (λ item. mark ++ hop_line item) c.args.hops.now in
    writes_same c.args.output.now c.write_each_marked.new.output (front ++ ((mark ++ ending) ++ (mark ++ last)))
    _ c.from_residual.result
    (marked_each mark hop_line c.args.hops.now (ending ∷ last ∷ []) ∙ two_more front mark ending last)
    (writes_cut c.args.output.now c.write_each_marked.new.output front
    ((mark ++ ending) ++ (mark ++ last)) c.from_residual.result c.from_residual.ensures.0
    c.in_err-write_each_marked.ensures)

pub returns-in_err-write_marked_text : goal.returns-in_err-write_marked_text
returns-in_err-write_marked_text g c =
    let mark = c.args.mark.now in
    let last = end_line (length c.args.hops.now + 1) in
    let ending = trace_end_line c.args.end in
    let front = flat_map (λ item. mark ++ hop_line item) c.args.hops.now in
    let r = c.from_residual-in_err-write_marked_text.result in
    writes_same c.args.output.now c.write_marked_text.new.output (front ++ ((mark ++ ending) ++ (mark ++ last))) _ r
    (marked_each mark hop_line c.args.hops.now (ending ∷ last ∷ []) ∙ two_more front mark ending last)
    (writes_next c.args.output.now c.write_each_marked.new.output c.write_marked_text.new.output front
    ((mark ++ ending) ++ (mark ++ last)) r c.in_ok-write_each_marked.ensures
    (writes_cut c.write_each_marked.new.output c.write_marked_text.new.output (mark ++ ending)
    (mark ++ last) r c.from_residual-in_err-write_marked_text.ensures.0 c.in_err-write_marked_text.ensures))

pub returns : goal.returns
returns g c =
    let mark = c.args.mark.now in
    let last = end_line (length c.args.hops.now + 1) in
    let ending = trace_end_line c.args.end in
    let front = flat_map (λ item. mark ++ hop_line item) c.args.hops.now in
    let r = c.write_marked_end.result in
    writes_same c.args.output.now c.write_marked_end.new.output (front ++ ((mark ++ ending) ++ (mark ++ last))) _ r
    (marked_each mark hop_line c.args.hops.now (ending ∷ last ∷ []) ∙ two_more front mark ending last)
    (writes_next c.args.output.now c.write_each_marked.new.output c.write_marked_end.new.output front
    ((mark ++ ending) ++ (mark ++ last)) r c.in_ok-write_each_marked.ensures
    (writes_next c.write_each_marked.new.output c.write_marked_text.new.output c.write_marked_end.new.output
    (mark ++ ending) (mark ++ last) r c.in_ok-write_marked_text.ensures
    (writes_same c.write_marked_text.new.output c.write_marked_end.new.output _ _ r
    (ap (λ n. mark ++ end_line n) (sym c.trace_line_count.ensures)) c.write_marked_end.ensures)))
