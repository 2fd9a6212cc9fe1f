use Rattle.std.proofs.Common.{arith}
use Rattle.igp_cost.proofs.least_trees.conditions.is_topology.Goals as goal

pub returns : goal.returns
returns c = (
  (λ h. record {
    size = omega (arith, c.if-nodes-gt-MAX_NODES.false);
    ascending = c.are_ascending.ensures.0 c.if-not-are_ascending.false;
    ends = c.have_nodes.ensures.0 h;
  }),
  (λ is. c.have_nodes.ensures.1 is.ends),
)
