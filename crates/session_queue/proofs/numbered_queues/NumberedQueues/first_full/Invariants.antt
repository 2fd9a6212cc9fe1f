use Rattle.std.proofs.Common.{◌≡◌}
use Rattle.std.specs.List.{find}
use Rattle.session_queue.specs.Tidy.{has_message}
use Rattle.session_queue.proofs.numbered_queues.NumberedQueues.first_full.Given as goal

-- what is left has the same first direction with a message
abbrev pub invariant-loop-direction : goal.invariant-loop-direction
invariant-loop-direction l = find (λ e. has_message e.1) l.initial.direction-iterator
    ≡ find (λ e. has_message e.1) l.direction-iterator
