use Rattle.std.proofs.Common.{ℕ, ◌<◌}
use Rattle.igp_cost.specs.Placed.{tree_in}
use Rattle.igp_cost.specs.Offers.{IsSameOrSettled}
use Rattle.igp_cost.proofs.least_trees.rooted.RootedGraph.are_same_or_settled.Given as goal

abbrev pub invariant-loop-at : goal.invariant-loop-at
invariant-loop-at l = (v : ℕ) → v < l.at →
    IsSameOrSettled l.self.nodes.now l.self.links.now (tree_in l.self.nodes.now l.self.source l.before)
    (tree_in l.self.nodes.now l.self.source l.rows) v
