use Rattle.log_replay.proofs.Calls.{not_seat}
use Rattle.log_replay.proofs.call.command_of.Goals as goal

pub returns-then-not-is_seat-clause-none : goal.returns-then-not-is_seat-clause-none
returns-then-not-is_seat-clause-none c =
    not_seat c.args.line.now c.in_ok-rest.rest.now c.in_ok-seat.seat.now c.in_ok-seat.command.now c.is_seat.result
    c.in_ok-rest.ensures.found c.in_ok-seat.ensures.whole c.in_ok-seat.ensures.first c.is_seat.ensures
    c.if-not-is_seat.true
