use Rattle.std.proofs.Common.{◌≡◌, ◌≤◌, ◌+◌, ◌++◌, length}
use Rattle.net_prefix.specs.declared.addr.Addr.{Addr}
use Rattle.session_queue.specs.Waiting.{queue_at, spare_at}
use Rattle.cell_engine.specs.Sending.{told, told_from}
use Rattle.cell_engine.specs.Admitting.{AreAdmitted}
use Rattle.cell_engine.proofs.sending.push_all.Given as goal

-- what was and what is still to be sent; and there is room for that, and it is admitted
abbrev pub invariant-loop-peer : goal.invariant-loop-peer
invariant-loop-peer l =
    (goal.iterator-loop-peer).can_next l.peer-iterator ×
    (goal.iterator-loop-peer).is_finite l.peer-iterator ×
    ((f t : Addr) → queue_at l.queues f t ++ told_from l.router l.peer-iterator.rest.items f t
    ≡ queue_at l.initial.queues f t ++ told_from l.router l.fn.sends.items f t)
    × ((t : Addr) → length (told t l.peer-iterator.rest.items) ≤ spare_at l.queues l.router t)
    × ((f t : Addr) → spare_at l.queues f t + length (told_from l.router l.fn.sends.items f t)
    ≡ spare_at l.initial.queues f t + length (told_from l.router l.peer-iterator.rest.items f t))
    × AreAdmitted l.queues.admitted l.peer-iterator.rest.items
    × (l.queues.admitted ≡ l.initial.queues.admitted)
