use Rattle.std.proofs.Common.{◌≡◌, take}
use Rattle.net_prefix.specs.declared.addr.Addr.{Addr}
use Rattle.session_queue.specs.Waiting.{queue_at, spare_at}
use Rattle.cell_engine.specs.Admitting.{AreAllAdmitted}
use Rattle.cell_engine.proofs.edits.places.admit_each.Given as goal

-- what is sent for the cells so far may be sent; the queues are as they were
abbrev pub invariant-loop-edit : goal.invariant-loop-edit
invariant-loop-edit g l =
    AreAllAdmitted l.queues.admitted (take l.edit-index l.edits)
    × ((f t : Addr) → queue_at l.queues f t ≡ queue_at l.initial.queues f t)
    × ((f t : Addr) → spare_at l.queues f t ≡ spare_at l.initial.queues f t)
