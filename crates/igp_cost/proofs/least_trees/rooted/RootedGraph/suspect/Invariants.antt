use Rattle.igp_cost.specs.Labels.{ArePlaces}
use Rattle.igp_cost.proofs.least_trees.rooted.RootedGraph.suspect.Given as goal

abbrev pub invariant-loop-i : goal.invariant-loop-i
invariant-loop-i l = ArePlaces l.self.nodes.now l.suspects.items
