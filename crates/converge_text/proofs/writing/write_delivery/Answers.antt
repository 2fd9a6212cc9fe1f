use Rattle.reply_text.specs.Replies.{reply_text}
use Rattle.reply_text.specs.Pieces.{writes_cut, writes_next}
use Rattle.convergence.specs.Deliveries.{reply_of}
use Rattle.converge_text.specs.Answers.{command_line}
use Rattle.converge_text.proofs.writing.write_delivery.Goals as goal

pub returns-in_err-write_command : goal.returns-in_err-write_command
returns-in_err-write_command g c =
    writes_cut c.args.output.now c.write_command.new.output (command_line c.args.delivery.now)
    (reply_text (reply_of c.args.delivery.now)) c.from_residual.result c.from_residual.ensures.0
    c.in_err-write_command.ensures

pub returns : goal.returns
returns g c =
    writes_next c.args.output.now c.write_command.new.output c.write_reply.new.output
    (command_line c.args.delivery.now) (reply_text (reply_of c.args.delivery.now)) c.write_reply.result
    c.in_ok-write_command.ensures c.write_reply.ensures
