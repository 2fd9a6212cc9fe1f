-- Which of several workers serves an address.
use Rattle.std.specs.Prelude.{ℕ, ◌%◌, Bool, ◌==◌}
use Rattle.net_prefix.specs.declared.addr.Addr.{Addr}
use Rattle.session_queue.specs.declared.direction.Direction.{Direction}

-- the shard of an address: its number, modulo the shards
abbrev pub shard_of : Addr → ℕ → ℕ
shard_of a shards = a.0 % shards

-- the receiver is of the shard
abbrev pub is_in_shard : ℕ → ℕ → Direction → Bool
is_in_shard shard shards d = shard_of d.to shards == shard
