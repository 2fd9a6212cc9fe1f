use Rattle.route_select.proofs.Sole.{each_is_applied}
use Rattle.route_select.proofs.laws.each_is_applied.Goals as goal

pub returns : goal.returns
returns c = each_is_applied
