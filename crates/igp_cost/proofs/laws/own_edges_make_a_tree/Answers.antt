use Rattle.igp_cost.proofs.OwnEdges.{own_edges}
use Rattle.igp_cost.proofs.laws.own_edges_make_a_tree.Goals as goal

pub returns : goal.returns
returns c = own_edges
