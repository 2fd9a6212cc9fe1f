use Rattle.std.proofs.Common.{◌≡◌, true, rules, arith}
use Rattle.std.proofs.lemmas.Grind.{common_steps}
use Rattle.convergence.specs.Waiting.{waits}
use Rattle.convergence.proofs.Quiet.{not_quiet}
use Rattle.convergence.proofs.random.Random.note.Goals as goal

pub returns-in_err-insert : goal.returns-in_err-insert
returns-in_err-insert g c =
    let w : waits c.args.machine.now c.args.from c.args.to ≡ true =
    first_of (search rules, grind (arith, common_steps)) in
    let h = not_quiet c.args.machine.now c.args.from c.args.to w in search rules
