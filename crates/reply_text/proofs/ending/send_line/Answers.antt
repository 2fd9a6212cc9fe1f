use Rattle.reply_text.specs.Ending.{fault_text}
use Rattle.reply_text.proofs.Told.{told_all, told_front}
use Rattle.reply_text.proofs.ending.send_line.Goals as goal

pub returns-in_err-write_line-clause-told : goal.returns-in_err-write_line-clause-told
returns-in_err-write_line-clause-told g c = told_front c.args.output.now c.write_line.new.output
    (fault_text c.args.fault.now) c.in_err-write_line.ensures.0 c.in_err-write_line.ensures.1

pub returns-clause-told : goal.returns-clause-told
returns-clause-told g c = told_all c.args.output.now c.write_line.new.output c.flush.new.self
    (fault_text c.args.fault.now) c.in_ok-write_line.ensures.0 c.flush.ensures.kept
