use Rattle.std.proofs.Common.{◌++◌}
use Rattle.reply_text.specs.Replies.{line_end}
use Rattle.reply_text.specs.Lines.{marked, reply_lines}
use Rattle.reply_text.specs.Pieces.{writes_cut, writes_next}
use Rattle.log_text.specs.Logs.{call_line, reply_mark, entry_text}
use Rattle.log_text.proofs.log.write_entry.Goals as goal

pub returns-in_err-write_call : goal.returns-in_err-write_call
unfolding entry_text
returns-in_err-write_call g c =
    let e = c.args.entry.now in
    writes_cut c.args.output.now c.write_call.new.output (call_line e.seat e.event ++ line_end)
    (marked reply_mark (reply_lines e.reply)) c.from_residual.result c.from_residual.ensures.0
    c.in_err-write_call.ensures

pub returns : goal.returns
unfolding entry_text
returns g c =
    let e = c.args.entry.now in
    writes_next c.args.output.now c.write_call.new.output c.write_marked_reply.new.output
    (call_line e.seat e.event ++ line_end) (marked reply_mark (reply_lines e.reply)) c.write_marked_reply.result
    c.in_ok-write_call.ensures c.write_marked_reply.ensures
