use Rattle.igp_cost.proofs.LoneNode.{own_nodes}
use Rattle.igp_cost.proofs.laws.own_nodes_make_a_tree.Goals as goal

pub returns : goal.returns
returns c = own_nodes
