-- How the workers of each shard wait for a message, as counts.
use Rattle.std.specs.Prelude.{ℕ, ◌+◌, ◌-◌, ◌^◌, Bool, nat_lt, min, List, slice_index_or, slice_set}
use Rattle.scheduler.specs.declared.shard_waits.ShardWait.{ShardWait}

-- a sum of counts, which stops at the largest of 64 bits
abbrev pub plus : ℕ → ℕ → ℕ
plus a b = min (a + b) (2 ^ 64 - 1)

-- THE WORKERS OF ONE SHARD

abbrev pub nobody_waits : ShardWait
nobody_waits = record { idle = 0; ready = 0; woken = 0 }

abbrev pub is_idle : ShardWait → Bool
is_idle w = nat_lt 0 w.idle

abbrev pub is_ready : ShardWait → Bool
is_ready w = nat_lt 0 w.ready

-- one has found no job
abbrev pub one_idle : ShardWait → ShardWait
one_idle w = record { idle = plus w.idle 1; ready = w.ready; woken = w.woken }

-- one who had found no job goes on
abbrev pub one_goes_on : ShardWait → ShardWait
one_goes_on w = record { idle = w.idle - 1; ready = w.ready; woken = w.woken }

-- a message may wait for the shard: whoever is idle is ready
abbrev pub idle_are_ready : ShardWait → ShardWait
idle_are_ready w = record { idle = 0; ready = plus w.ready w.idle; woken = w.woken }

-- no message waits for the shard: whoever is ready is idle again
abbrev pub ready_are_idle : ShardWait → ShardWait
ready_are_idle w = record { idle = plus w.idle w.ready; ready = 0; woken = w.woken }

-- whoever is ready is woken
abbrev pub ready_are_woken : ShardWait → ShardWait
ready_are_woken w = record { idle = w.idle; ready = 0; woken = plus w.woken w.ready }

-- one who was woken runs
abbrev pub one_runs : ShardWait → ShardWait
one_runs w = record { idle = w.idle; ready = w.ready; woken = w.woken - 1 }

-- ALL SHARDS

-- how the workers of the shard wait: nobody does where there is no such shard
abbrev pub wait_of : ℕ → List ShardWait → ShardWait
wait_of shard waits = slice_index_or waits shard nobody_waits

-- this happens at the shard; the others stay as they are
abbrev pub at_shard : ℕ → (ShardWait → ShardWait) → List ShardWait → List ShardWait
at_shard shard change waits = slice_set waits shard (change (wait_of shard waits))
