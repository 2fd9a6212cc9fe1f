use Rattle.std.proofs.Common.{◌≡◌, ◌≤◌, ◌++◌, length}
use Rattle.net_prefix.specs.declared.addr.Addr.{Addr}
use Rattle.session_queue.specs.Waiting.{queue_at, spare_at}
use Rattle.cell_engine.specs.Editing.{told_by_all}
use Rattle.cell_engine.specs.Admitting.{AreAllAdmitted}
use Rattle.cell_engine.specs.CellEdits.{edits_send, AreEditsThere, with_edits}
use Rattle.cell_engine.proofs.edits.cell_edits.place_edits.Given as goal

-- what is still to be done makes the whole; it has its cells; what was and what is still to be sent; and there is room
-- for that, and it is admitted
abbrev pub invariant-loop-edit : goal.invariant-loop-edit
invariant-loop-edit g l =
    (goal.iterator-loop-edit g).can_next l.edit-iterator ×
    (goal.iterator-loop-edit g).is_finite l.edit-iterator ×
    AreEditsThere l.edit-iterator.rest.items l.tables
    × (with_edits l.edit-iterator.rest.items l.tables ≡ with_edits l.fn.edits.items l.initial.tables)
    × ((f t : Addr) → queue_at l.queues f t ++ told_by_all (edits_send l.edit-iterator.rest.items) f t
    ≡ queue_at l.initial.queues f t ++ told_by_all (edits_send l.fn.edits.items) f t)
    × ((f t : Addr) → length (told_by_all (edits_send l.edit-iterator.rest.items) f t) ≤ spare_at l.queues f t)
    × AreAllAdmitted l.queues.admitted l.edit-iterator.rest.items
