use Rattle.std.proofs.Common.{◌≡◌, ℕ, ◌<◌, vec_len}
use Rattle.igp_cost.specs.Labels.{label_at}
use Rattle.igp_cost.specs.Codes.{IsCode, code_at, passed_on}
use Rattle.igp_cost.proofs.least_trees.rooted.RootedGraph.passed_of.Given as goal

abbrev pub invariant-loop-at : goal.invariant-loop-at
invariant-loop-at l = record {
  count : vec_len l.passed ≡ l.at;
  each : (v : ℕ) → v < l.at →
      IsCode (passed_on l.self.nodes.now l.self.source v (label_at l.labels v)) (code_at l.passed.items v);
}
