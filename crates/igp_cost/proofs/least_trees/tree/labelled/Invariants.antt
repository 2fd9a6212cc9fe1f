use Rattle.std.proofs.Common.{◌≡◌, ◌++◌, drop}
use Rattle.igp_cost.specs.Wired.{rows_of}
use Rattle.igp_cost.proofs.least_trees.tree.labelled.Given as goal

abbrev pub invariant-loop-at : goal.invariant-loop-at
invariant-loop-at l = l.rows.items ++ rows_of (drop l.at l.nodes) (drop l.at l.labels) ≡ rows_of l.nodes l.labels
