use Rattle.std.proofs.Common.{◌≤◌, length, take, ap, ◌∙◌, arith, rules}
use Rattle.convergence.specs.Kept.{Kept}
use Rattle.convergence.proofs.Snapshots.{restored}
use Rattle.convergence.proofs.keeping.Keeping.restore.Goals as goal

pub returns : goal.returns
returns g c =
    let few : c.args.number ≤ length c.args.self.now.snapshots = first_of (search rules, grind arith) in
    let first = c.truncate.ensures.items ∙ ap (λ (s : Kept). take c.args.number s.snapshots) c.self.view_is in
    restored c.args.number c.args.self.now c.truncate.new.self.items c.pop.new.self.items c.in-Some.snapshot first
    c.in-Some.ensures.items few
