use Rattle.reply_text.specs.Replies.{end_line}
use Rattle.converge_text.proofs.Echoing.{written_more, written_no_more}
use Rattle.converge_text.proofs.writing.write_count.Goals as goal

pub returns-in-Ok : goal.returns-in-Ok
returns-in-Ok g c = λ old text h.
    written_more old c.args.output.now c.write_end.new.output text (end_line c.args.count)
    c.args.written c.write_end.result _ c.in-Ok.is h c.write_end.ensures

pub returns-in-Err : goal.returns-in-Err
returns-in-Err g c = λ old text h.
    written_no_more old c.args.output.now text (end_line c.args.count) c.args.written
    c.in-Err.failed c.in-Err.is h
