use Rattle.std.proofs.Common.{◌≡◌, ◌++◌, drop}
use Rattle.prefix_table.specs.Tables.{all_seen}
use Rattle.cell_engine.specs.Becomings.{sites_of, moved_cells}
use Rattle.cell_engine.proofs.edits.moved_cells.add_entries.Given as goal

-- with the cells that are left, all are added
abbrev pub invariant-loop-entry : goal.invariant-loop-entry
invariant-loop-entry g l =
    (l.moved ++ moved_cells l.becoming (all_seen (drop l.entry-index l.entry-items)) ≡ l.fn.moved
    ++ moved_cells l.becoming (all_seen l.entry-items))
    × (l.change ≡ sites_of l.becoming)
