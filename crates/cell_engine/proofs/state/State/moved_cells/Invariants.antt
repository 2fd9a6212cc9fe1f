use Rattle.std.proofs.Common.{◌≡◌, take}
use Rattle.cell_engine.specs.Becomings.{all_moved}
use Rattle.cell_engine.proofs.state.State.moved_cells.Given as goal

-- those of the routers so far
abbrev pub invariant-loop-becoming : goal.invariant-loop-becoming
invariant-loop-becoming g l = l.moved ≡ all_moved (take l.becoming-index l.becomings) l.self.tables
