use Rattle.std.proofs.Common.{◌≡◌, ◌≤◌, length, max, drop}
use Rattle.net_prefix.specs.declared.addr.Addr.{Addr}
use Rattle.session_queue.specs.Waiting.{queue_at, spare_at}
use Rattle.cell_engine.specs.Sending.{told}
use Rattle.cell_engine.proofs.sending.reserve_all.Given as goal

-- the queues and what is admitted are as they were, and there is a place for each message but perhaps for those that
-- are left
abbrev pub invariant-loop-send : goal.invariant-loop-send
invariant-loop-send l =
    ((f t : Addr) → queue_at l.queues f t ≡ queue_at l.initial.queues f t)
    × ((f t : Addr) → spare_at l.initial.queues f t ≤ spare_at l.queues f t)
    × ((t : Addr) → length (told t l.sends) ≤ max (spare_at l.queues l.router t)
    (length (told t (drop l.send-index l.sends))))
    × (l.queues.admitted ≡ l.initial.queues.admitted)
