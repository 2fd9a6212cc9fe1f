use Rattle.converge_text.specs.Answers.{queued_text}
use Rattle.converge_text.proofs.Echoing.{written_more, written_no_more}
use Rattle.converge_text.proofs.writing.write_queued.Goals as goal

pub returns-in-Ok : goal.returns-in-Ok
returns-in-Ok g c = λ old text h.
    written_more old c.args.output.now c.write_queued_line.new.output text (queued_text c.args.from c.args.to
    c.args.queued)
    c.args.written c.write_queued_line.result _ c.in-Ok.is h c.write_queued_line.ensures

pub returns-in-Err : goal.returns-in-Err
returns-in-Err g c = λ old text h.
    written_no_more old c.args.output.now text (queued_text c.args.from c.args.to c.args.queued) c.args.written
    c.in-Err.failed c.in-Err.is h
