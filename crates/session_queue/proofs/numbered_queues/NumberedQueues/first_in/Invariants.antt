use Rattle.std.proofs.Common.{◌≡◌}
use Rattle.std.specs.List.{find, filter}
use Rattle.session_queue.specs.Shards.{is_in_shard}
use Rattle.session_queue.specs.Tidy.{has_message}
use Rattle.session_queue.proofs.numbered_queues.NumberedQueues.first_in.Given as goal

-- what is left has the same first direction with a message of the shard
abbrev pub invariant-loop-direction : goal.invariant-loop-direction
invariant-loop-direction l =
    find (λ e. has_message e.1) (filter (λ e. is_in_shard l.shard l.shards e.0) l.initial.direction-iterator)
    ≡ find (λ e. has_message e.1) (filter (λ e. is_in_shard l.shard l.shards e.0) l.direction-iterator)
