use Rattle.std.proofs.Common.{◌≡◌, ℕ, ◌<◌, ◌≤◌, true, false}
use Rattle.igp_cost.specs.Labels.{AreBackedLabels, weight_of, ClosesAt}
use Rattle.igp_cost.proofs.least_trees.rooted.RootedGraph.pass.Given as goal

abbrev pub invariant-loop-at : goal.invariant-loop-at
invariant-loop-at l = record {
  backed : AreBackedLabels l.self.nodes.now l.self.source l.self.links.now l.labels;
  never_rises : weight_of l.labels ≤ weight_of l.initial.labels;
  falls : l.changed ≡ true → weight_of l.labels < weight_of l.initial.labels;
  closed : l.changed ≡ false → (k : ℕ) → k < l.at → ClosesAt l.self.nodes.now l.self.source l.self.links.now l.labels k;
}
