use Rattle.std.proofs.Common.{◌≡◌, ◌++◌, drop}
use Rattle.igp_cost.specs.Placed.{labels_of}
use Rattle.igp_cost.specs.Wired.{rows_of}
use Rattle.igp_cost.proofs.least_trees.tree.known_rows.Given as goal

abbrev pub invariant-loop-at : goal.invariant-loop-at
invariant-loop-at l = l.some.items ++ rows_of (drop l.at l.nodes) (labels_of (drop l.at l.rows))
    ≡ rows_of l.nodes (labels_of l.rows)
