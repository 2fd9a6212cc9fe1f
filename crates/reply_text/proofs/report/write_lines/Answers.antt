use Rattle.std.proofs.Common.{length}
use Rattle.std.specs.List.{flat_map}
use Rattle.reply_text.specs.Replies.{end_line}
use Rattle.reply_text.specs.Pieces.{writes_cut, writes_next}
use Rattle.reply_text.proofs.report.write_lines.Goals as goal

pub returns-in_err-write_each : goal.returns-in_err-write_each
returns-in_err-write_each g c =
    writes_cut c.args.output.now c.write_each.new.output (flat_map g.T.Text.text c.args.lines.now)
    (end_line (length c.args.lines.now)) c.from_residual.result c.from_residual.ensures.0
    c.in_err-write_each.ensures

pub returns : goal.returns
returns g c =
    writes_next c.args.output.now c.write_each.new.output c.write_end.new.output
    (flat_map g.T.Text.text c.args.lines.now) (end_line (length c.args.lines.now)) c.write_end.result
    c.in_ok-write_each.ensures c.write_end.ensures
