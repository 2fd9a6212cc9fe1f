use Rattle.route_select.proofs.Sole.{none_is_left}
use Rattle.route_select.proofs.laws.none_is_left.Goals as goal

pub returns : goal.returns
returns c = none_is_left
