use Rattle.std.proofs.Common.{◌≡◌}
use Rattle.std.proofs.Math.ListN.{replicate}
use Rattle.scheduler.specs.Counts.{nobody_waits}
use Rattle.scheduler.proofs.shard_waits.ShardWaits.new.Given as goal

abbrev pub invariant-loop : goal.invariant-loop
invariant-loop l = l.shards.items ≡ replicate l.counter nobody_waits
