use Rattle.std.proofs.Common.{◌≡◌, ◌++◌, take, filter}
use Rattle.std.specs.Ordering.{is_lt}
use Rattle.session_queue.specs.Waiting.{direction_cmp}
use Rattle.plain_simulator.proofs.queues.add_after.Given as goal

-- those of the queues so far are added
abbrev pub invariant-loop-queue : goal.invariant-loop-queue
invariant-loop-queue l = l.kept.items ≡ l.fn.kept.items ++ filter (λ q. is_lt (direction_cmp l.direction q.of))
    (take l.queue-index l.queues)
