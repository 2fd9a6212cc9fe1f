use Rattle.reply_text.specs.Replies.{report_text}
use Rattle.reply_text.proofs.Marks.{mark_cut, mark_next}
use Rattle.reply_text.proofs.marked.write_marked_answer.Goals as goal

pub returns-in_err-write : goal.returns-in_err-write
returns-in_err-write g c =
    mark_cut c.args.output.now c.write.new.self c.args.mark.now (report_text c.args.report.now) c.from_residual.result
    c.from_residual.ensures.0 c.in_err-write.ensures

pub returns : goal.returns
returns g c =
    mark_next c.args.output.now c.write.new.self c.write_report.new.output c.args.mark.now
    (report_text c.args.report.now) c.write_report.result c.in_ok-write.ensures c.write_report.ensures
