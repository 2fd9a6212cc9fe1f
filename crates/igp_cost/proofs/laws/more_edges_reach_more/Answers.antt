use Rattle.igp_cost.proofs.MoreEdges.{more_edges}
use Rattle.igp_cost.proofs.laws.more_edges_reach_more.Goals as goal

pub returns : goal.returns
returns c = more_edges
