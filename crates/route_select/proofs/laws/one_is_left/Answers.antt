use Rattle.route_select.proofs.Sole.{one_is_left}
use Rattle.route_select.proofs.laws.one_is_left.Goals as goal

pub returns : goal.returns
returns c = one_is_left
