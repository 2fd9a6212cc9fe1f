use Rattle.std.proofs.Common.{◌≡◌, ◌<◌, ℕ, length, slice_index_or}
use Rattle.scheduler.proofs.conditions.ShardConditions.new.Given as goal

-- the conditions so far are those of the shards so far
abbrev pub invariant-loop-shard : goal.invariant-loop-shard
invariant-loop-shard l = (length l.conditions.items ≡ l.shard)
    × ((k d : ℕ) → k < length l.conditions.items → slice_index_or l.conditions.items k d ≡ k)
