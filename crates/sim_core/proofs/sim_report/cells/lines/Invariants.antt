use Rattle.std.proofs.Common.{◌≡◌, ◌++◌, length}
use Rattle.std.specs.List.{filter_map}
use Rattle.cell_engine.specs.Reporting.{cells_of, cells_after}
use Rattle.sim_core.proofs.sim_report.cells.lines.Given as goal

-- what was said, and what is said of the cells that are left, is all
abbrev pub invariant-walk : goal.invariant-walk
invariant-walk g l =
    let said = g.L.Line.said l.line in
    l.items.items ++ filter_map said (cells_after l.fn.router l.state.tables l.after)
    ≡ filter_map said (cells_of l.fn.router l.state.tables)

abbrev pub decreases-walk : goal.decreases-walk
decreases-walk g l = length (cells_after l.fn.router l.state.tables l.after)
