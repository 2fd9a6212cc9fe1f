use Rattle.std.proofs.Common.{◌≡◌, take}
use Rattle.net_prefix.specs.declared.addr.Addr.{Addr}
use Rattle.session_queue.specs.Waiting.{queue_at, spare_at, KeepsAdmitted}
use Rattle.cell_engine.specs.Admitting.{AreAdmitted}
use Rattle.cell_engine.proofs.sending.admit_all.Given as goal

-- those so far may be sent; the queues are as they were, and what was admitted stays so
abbrev pub invariant-loop-send : goal.invariant-loop-send
invariant-loop-send l =
    AreAdmitted l.queues.admitted (take l.send-index l.sends)
    × KeepsAdmitted l.initial.queues l.queues
    × ((f t : Addr) → queue_at l.queues f t ≡ queue_at l.initial.queues f t)
    × ((f t : Addr) → spare_at l.queues f t ≡ spare_at l.initial.queues f t)
