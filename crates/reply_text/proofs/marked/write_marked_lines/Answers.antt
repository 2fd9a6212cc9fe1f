use Rattle.std.proofs.Common.{length, ◌++◌, ◌∷◌, [], ◌∙◌, ap, append-nil}
use Rattle.std.specs.List.{flat_map}
use Rattle.reply_text.specs.Replies.{end_line}
use Rattle.reply_text.proofs.Marks.{marked_each}
use Rattle.reply_text.specs.Pieces.{writes_same, writes_cut, writes_next}
use Rattle.reply_text.proofs.marked.write_marked_lines.Goals as goal

pub returns-in_err-write_each_marked : goal.returns-in_err-write_each_marked
returns-in_err-write_each_marked g c =
    let mark = c.args.mark.now in
    let last = end_line (length c.args.lines.now) in
    let front = flat_map (λ item. mark ++ g.T.Text.text item) c.args.lines.now in
    writes_same c.args.output.now c.write_each_marked.new.output (front ++ (mark ++ last)) _ c.from_residual.result
    (marked_each mark g.T.Text.text c.args.lines.now (last ∷ []) ∙ ap (λ t. front ++ t) (append-nil (mark ++ last)))
    (writes_cut c.args.output.now c.write_each_marked.new.output front
    (mark ++ last) c.from_residual.result c.from_residual.ensures.0 c.in_err-write_each_marked.ensures)

pub returns : goal.returns
returns g c =
    let mark = c.args.mark.now in
    let last = end_line (length c.args.lines.now) in
    let front = flat_map (λ item. mark ++ g.T.Text.text item) c.args.lines.now in
    writes_same c.args.output.now c.write_marked_end.new.output (front ++ (mark ++ last)) _ c.write_marked_end.result
    (marked_each mark g.T.Text.text c.args.lines.now (last ∷ []) ∙ ap (λ t. front ++ t) (append-nil (mark ++ last)))
    (writes_next c.args.output.now c.write_each_marked.new.output c.write_marked_end.new.output front
    (mark ++ last) c.write_marked_end.result c.in_ok-write_each_marked.ensures c.write_marked_end.ensures)
