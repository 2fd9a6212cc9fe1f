use Rattle.log_replay.proofs.Calls.{call_of_command}
use Rattle.log_replay.proofs.call.read_any_call.Goals as goal

pub returns-in-Some : goal.returns-in-Some
returns-in-Some c = call_of_command c.args.line.now c.in-Some.command.now c.in-Some.ensures.found c.read_command.result
    c.read_command.ensures
