use Rattle.std.proofs.Common.{◌≡◌, ℕ, ◌<◌, vec_len}
use Rattle.igp_cost.specs.Labels.{label_at}
use Rattle.igp_cost.specs.Codes.{IsCode, code_at}
use Rattle.igp_cost.proofs.least_trees.rooted.RootedGraph.codes_of.Given as goal

abbrev pub invariant-loop-at : goal.invariant-loop-at
invariant-loop-at l = record {
  count : vec_len l.codes ≡ l.at;
  each : (v : ℕ) → v < l.at → IsCode (label_at l.labels v) (code_at l.codes.items v);
}
