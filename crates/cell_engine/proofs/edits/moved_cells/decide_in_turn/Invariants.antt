use Rattle.std.proofs.Common.{◌≡◌, map, take}
use Rattle.cell_engine.specs.Becomings.{edit_at}
use Rattle.cell_engine.proofs.edits.moved_cells.decide_in_turn.Given as goal

-- those of the cells so far have their edits
abbrev pub invariant-loop-cell : goal.invariant-loop-cell
invariant-loop-cell g l = l.edits.items ≡ map edit_at (take l.cell-index l.moved)
