use Rattle.std.proofs.Common.{◌≡◌, rules}
use Rattle.std.proofs.lemmas.Bool.{iff_false}
use Rattle.net_conf.specs.declared.refusal.Refusal.TheVariants.{Memory}
use Rattle.log_replay.proofs.Commands.{not_spaced, read_event, read_fault, read_memory}
use Rattle.log_replay.proofs.call.read_command.Goals as goal

pub returns-then-not-is_spaced : goal.returns-then-not-is_spaced
returns-then-not-is_spaced c =
    not_spaced c.args.command.now (λ h. iff_false c.is_spaced.ensures c.if-not-is_spaced.true h)

pub returns-in-Ok : goal.returns-in-Ok
returns-in-Ok c = read_event c.args.command.now c.in-Ok.event
    (c.is_spaced.ensures.0 c.if-not-is_spaced.false) c.in-Ok.ensures

pub returns-in-Err : goal.returns-in-Err
returns-in-Err c =
    let is : c.in-Err.refusal ≡ Memory = search rules in
    read_memory c.args.command.now c.in-Err.refusal (c.is_spaced.ensures.0 c.if-not-is_spaced.false) c.in-Err.ensures is

pub returns-in-Err-2 : goal.returns-in-Err-2
returns-in-Err-2 c =
    let other : c.in-Err.refusal ≡ Memory → ⊥ = search rules in
    read_fault c.args.command.now c.in-Err.refusal c.in-Err.ensures other
