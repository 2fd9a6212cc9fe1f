use Rattle.std.proofs.Common.{◌≡◌, ℕ, ◌<◌, true}
use Rattle.igp_cost.specs.Codes.{AreMet, IsShutAt}
use Rattle.igp_cost.proofs.least_trees.rooted.RootedGraph.look_at_all.Given as goal

abbrev pub invariant-loop-at : goal.invariant-loop-at
invariant-loop-at l = record {
  met : AreMet l.self.nodes.now l.self.source l.self.links.now l.codes l.passed l.marks;
  shut : l.shut ≡ true → (k : ℕ) → k < l.at →
      IsShutAt l.self.nodes.now l.self.source l.self.links.now l.codes l.passed k;
}
