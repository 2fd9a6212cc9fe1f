use Rattle.std.proofs.Common.{◌≡◌, ℕ, ◌<◌, vec_len}
use Rattle.std.specs.Prelude.{slice_index_or}
use Rattle.igp_cost.specs.Labels.{addr_at}
use Rattle.igp_cost.specs.Wired.{no_row}
use Rattle.igp_cost.proofs.least_trees.rooted.RootedGraph.rows_of_labels.Given as goal

abbrev pub invariant-loop-at : goal.invariant-loop-at
invariant-loop-at l = record {
  same_length : vec_len l.rows ≡ l.at;
  same : (v : ℕ) → v < l.at → (slice_index_or l.rows.items v no_row).0 ≡ addr_at l.self.nodes.now v;
}
