use Rattle.std.proofs.Common.{◌≡◌}
use Rattle.scheduler.specs.Waiting.{wakes_first}
use Rattle.scheduler.proofs.waits.Waits.wake_all.Given as goal

-- the workers of the shards so far are woken
abbrev pub invariant-loop-shard : goal.invariant-loop-shard
invariant-loop-shard l = l.self ≡ wakes_first l.shard l.initial.self
