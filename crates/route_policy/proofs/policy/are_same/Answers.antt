use Rattle.std.proofs.Common.{◌∙◌}
use Rattle.route_policy.proofs.Comparing.{compared_rules}
use Rattle.route_policy.proofs.policy.are_same.Goals as goal

pub returns : goal.returns
returns c = c.eq.ensures ∙ compared_rules c.args.rules.now c.args.others.now
