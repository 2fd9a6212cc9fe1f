use Rattle.std.proofs.Common.{ℕ, suc, ◌<◌}
use Rattle.igp_cost.specs.Labels.{addr_at}
use Rattle.igp_cost.proofs.least_trees.conditions.are_ascending.Given as goal

abbrev pub invariant-loop-at : goal.invariant-loop-at
invariant-loop-at l = (i : ℕ) → suc i < l.at → (addr_at l.nodes i).0 < (addr_at l.nodes (suc i)).0
