use Rattle.reply_text.specs.Replies.{end_line}
use Rattle.reply_text.specs.Pieces.{writes_cut, writes_next}
use Rattle.reply_text.proofs.marked.write_marked_end.Goals as goal

pub returns-in_err-write : goal.returns-in_err-write
returns-in_err-write g c =
    writes_cut c.args.output.now c.write.new.self c.args.mark.now (end_line c.args.count) c.from_residual.result
    c.from_residual.ensures.0 c.in_err-write.ensures

pub returns : goal.returns
returns g c =
    writes_next c.args.output.now c.write.new.self c.write_end.new.output c.args.mark.now
    (end_line c.args.count) c.write_end.result c.in_ok-write.ensures c.write_end.ensures
