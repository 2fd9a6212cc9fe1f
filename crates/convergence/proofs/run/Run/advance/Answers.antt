use Rattle.std.proofs.Common.{◌≡◌, true, refl, arith, rules}
use Rattle.std.proofs.lemmas.Grind.{common_steps}
use Rattle.convergence.specs.Waiting.{waits}
use Rattle.convergence.proofs.Quiet.{not_quiet}
use Rattle.convergence.proofs.run.Run.advance.Goals as goal

pub returns-then-self-clause-advance : goal.returns-then-self-clause-advance
returns-then-self-clause-advance g c =
    let w : waits c.args.machine.now c.in-Some.from c.in-Some.to ≡ true =
    first_of (search rules, grind (arith, common_steps)) in
    (refl, refl, (not_quiet c.args.machine.now c.in-Some.from c.in-Some.to w, omega (arith, c.args.self.now.few)))

pub returns-in-Err-clause-advance : goal.returns-in-Err-clause-advance
returns-in-Err-clause-advance g c =
    let w : waits c.args.machine.now c.in-Some.from c.in-Some.to ≡ true =
    first_of (search rules, grind (arith, common_steps)) in
    (c.in-Err.ensures.same, refl, not_quiet c.args.machine.now c.in-Some.from c.in-Some.to w)
