use Rattle.std.proofs.Common.{Ok, Option, subst}
use Rattle.sim_event.specs.declared.event.Event.{Event}
use Rattle.command_text.specs.Lines.{Means, IsReading}
use Rattle.team_run.proofs.Calls.{called_or_not}
use Rattle.team_run.proofs.engineer.call_line.Goals as goal

pub returns-in-Ok-Some : goal.returns-in-Ok-Some
returns-in-Ok-Some g c =
    let line = c.args.line.now in
    let event = c.in-Ok-Some.event in
    let means : Means line event =
    subst (λ (found : Option Event). IsReading line (Ok found)) c.in-Ok-Some.field-0-is c.in-Ok-Some.ensures in
    called_or_not c.args.seat.now c.call.new.seat line event c.call.result c.want_of_memory.result means
    c.want_of_memory.ensures c.call.ensures.seat
