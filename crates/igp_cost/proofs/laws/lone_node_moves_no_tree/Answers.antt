use Rattle.igp_cost.proofs.LoneNode.{lone_node}
use Rattle.igp_cost.proofs.laws.lone_node_moves_no_tree.Goals as goal

pub returns : goal.returns
returns c = lone_node
