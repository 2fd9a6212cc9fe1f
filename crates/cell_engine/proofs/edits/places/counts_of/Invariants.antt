use Rattle.std.proofs.Common.{◌≡◌, length, take}
use Rattle.net_prefix.specs.declared.addr.Addr.{Addr}
use Rattle.cell_engine.specs.Editing.{told_by_all}
use Rattle.cell_engine.specs.CellEdits.{edits_send}
use Rattle.cell_engine.specs.Counts.{count_at}
use Rattle.cell_engine.proofs.edits.places.counts_of.Given as goal

-- what is sent for the cells so far is counted
abbrev pub invariant-loop-edit : goal.invariant-loop-edit
invariant-loop-edit g l = (f t : Addr) →
    count_at l.counts.entries f t ≡ length (told_by_all (edits_send (take l.edit-index l.edits)) f t)
