use Rattle.std.proofs.Common.{codes, ◌++◌, append_assoc}
use Rattle.std.specs.Fmt.{decimal}
use Rattle.reply_text.specs.Replies.{line_end}
use Rattle.reply_text.specs.Pieces.{writes_same, writes_cut, writes_next}
use Rattle.log_text.specs.Logs.{command_text}
use Rattle.log_text.proofs.log.write_call.Goals as goal

pub returns-in_err-write_seat : goal.returns-in_err-write_seat
returns-in_err-write_seat g c =
    let head = codes "@" ++ decimal c.args.seat ++ codes " " in
    let command = command_text c.args.event.now in
    let r = c.from_residual.result in
    writes_same c.args.output.now c.write_seat.new.output _ _ r (append_assoc head command line_end)
    (writes_cut c.args.output.now c.write_seat.new.output head (command ++ line_end) r c.from_residual.ensures.0
    c.in_err-write_seat.ensures)

pub returns-in_err-write_command : goal.returns-in_err-write_command
returns-in_err-write_command g c =
    let head = codes "@" ++ decimal c.args.seat ++ codes " " in
    let command = command_text c.args.event.now in
    let r = c.from_residual-in_err-write_command.result in
    writes_same c.args.output.now c.write_command.new.output _ _ r (append_assoc head command line_end)
    (writes_next c.args.output.now c.write_seat.new.output c.write_command.new.output head
    (command ++ line_end) r c.in_ok-write_seat.ensures
    (writes_cut c.write_seat.new.output c.write_command.new.output command line_end r
    c.from_residual-in_err-write_command.ensures.0 c.in_err-write_command.ensures))

pub returns : goal.returns
returns g c =
    let head = codes "@" ++ decimal c.args.seat ++ codes " " in
    let command = command_text c.args.event.now in
    let r = c.write.result in
    writes_same c.args.output.now c.write.new.self _ _ r (append_assoc head command line_end)
    (writes_next c.args.output.now c.write_seat.new.output c.write.new.self head
    (command ++ line_end) r c.in_ok-write_seat.ensures
    (writes_next c.write_seat.new.output c.write_command.new.output c.write.new.self command line_end r
    c.in_ok-write_command.ensures c.write.ensures))
