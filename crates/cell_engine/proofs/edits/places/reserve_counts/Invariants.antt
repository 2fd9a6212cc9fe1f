use Rattle.std.proofs.Common.{◌≡◌, ◌≤◌, ℕ, map}
use Rattle.net_prefix.specs.declared.addr.Addr.{Addr}
use Rattle.session_queue.specs.declared.direction.Direction.{Direction}
use Rattle.session_queue.specs.Waiting.{queue_at, spare_at}
use Rattle.cell_engine.specs.Counts.{count_at}
use Rattle.cell_engine.proofs.edits.places.reserve_counts.Given as goal

-- the queues are as they were, and the directions so far have their places
abbrev pub invariant-loop-direction : goal.invariant-loop-direction
invariant-loop-direction l =
    ((f t : Addr) → queue_at l.queues f t ≡ queue_at l.initial.queues f t)
    × ((f t : Addr) → count_at (map {B = Direction × ℕ} (λ e. (e.0.now, e.1.now)) l.yielded) f t
    ≤ spare_at l.queues f t)
    × (l.queues.admitted ≡ l.initial.queues.admitted)
