use Rattle.converge_text.specs.Answers.{ending_text}
use Rattle.converge_text.proofs.Echoing.{written_more, written_no_more}
use Rattle.converge_text.proofs.writing.write_ending.Goals as goal

pub returns-in-Ok : goal.returns-in-Ok
returns-in-Ok g c = λ old text h.
    written_more old c.args.output.now c.write_ended.new.output text (ending_text c.args.ending c.args.tally)
    c.args.written c.write_ended.result _ c.in-Ok.is h c.write_ended.ensures

pub returns-in-Err : goal.returns-in-Err
returns-in-Err g c = λ old text h.
    written_no_more old c.args.output.now text (ending_text c.args.ending c.args.tally) c.args.written c.in-Err.failed
    c.in-Err.is h
