use Rattle.igp_cost.specs.Labels.{AreBackedLabels, weight_of}
use Rattle.igp_cost.proofs.least_trees.rooted.RootedGraph.settle.Given as goal

abbrev pub invariant-loop : goal.invariant-loop
invariant-loop l = AreBackedLabels l.self.nodes.now l.self.source l.self.links.now l.labels

abbrev pub decreases-loop : goal.decreases-loop
decreases-loop l = weight_of l.labels
