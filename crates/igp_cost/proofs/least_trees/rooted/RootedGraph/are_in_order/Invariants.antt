use Rattle.std.proofs.Common.{◌≡◌, ℕ, ◌<◌, ◌≤◌}
use Rattle.std.specs.Prelude.{slice_index_or}
use Rattle.igp_cost.specs.Labels.{addr_at}
use Rattle.igp_cost.specs.Wired.{no_row}
use Rattle.igp_cost.proofs.least_trees.rooted.RootedGraph.are_in_order.Given as goal

abbrev pub invariant-loop-at : goal.invariant-loop-at
invariant-loop-at l = record {
  same : (v : ℕ) → v < l.at → (slice_index_or l.rows v no_row).0 ≡ addr_at l.self.nodes.now v;
  limited : (v : ℕ) → v < l.at → (slice_index_or l.rows v no_row).1.cost ≤ 268435456;
}
