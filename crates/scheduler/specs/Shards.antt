-- How many shards there may be.
use Rattle.std.specs.Prelude.{◌≤◌, ℕ}

-- a desk has 1 to 64 shards
abbrev pub AreShards : ℕ → Type 0
AreShards n = (1 ≤ n) × (n ≤ 64)
