use Rattle.std.proofs.Common.{◌∙◌}
use Rattle.reference_machine.proofs.Originated.{found_listed}
use Rattle.reference_machine.proofs.machine_rules.standing.is_originated.Goals as goal

pub returns : goal.returns
returns c = c.contains.ensures ∙ found_listed c.args.prefix c.args.site.now.origins
