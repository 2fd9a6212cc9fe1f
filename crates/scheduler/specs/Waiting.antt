-- Who works at a desk and who waits there, as counts. A worker at work has a job, looks for one, or was woken. One who
-- found no job is idle till a message may wait for the shard, then ready, and is woken at once or later. One who often
-- finds the lock taken backs off, and sleeps till woken.
use Rattle.std.specs.Prelude.{◌≡◌, ℕ, zero, suc, ◌-◌, Bool, false, not, ◌||◌, ◌&&◌, ◌==◌, All, Option, Some, None, length, if◌then◌else◌}
use Rattle.std.specs.List.{position}
use Rattle.std.proofs.Math.ListN.{replicate}
use Rattle.scheduler.specs.declared.shard_waits.ShardWait.{ShardWait}
use Rattle.scheduler.specs.declared.waits.Waits.{Waits}
use Rattle.scheduler.specs.declared.waits.Woken.{Woken}
use Rattle.scheduler.specs.declared.waits.Woken.TheVariants.{Nobody, OfShard, BackedOff as OneBackedOff}
use Rattle.scheduler.specs.Backing.{none_backed_off, one_backs_off, one_is_woken, all_are_woken, one_resumes}
use Rattle.scheduler.specs.Counts.{plus, nobody_waits, is_ready, one_idle, one_goes_on, idle_are_ready, ready_are_idle, ready_are_woken, one_runs, wait_of, at_shard}

-- COUNTS

-- nobody sleeps unwatched: where nobody is at work, nobody is ready, and nobody has backed off and sleeps
abbrev pub IsWatched : Waits → Type 0
IsWatched w = w.at_work ≡ 0 → All (λ s. s.ready ≡ 0) w.shards × (w.backed_off.asleep ≡ 0)

abbrev pub nobody_there : ℕ → Waits
nobody_there shards = record {
  at_work = 0;
  shards = replicate shards nobody_waits;
  backed_off = none_backed_off;
}

abbrev pub come : ℕ → Waits → Waits
come workers w = record w { at_work = plus w.at_work workers }

-- a worker of the shard has found no job
abbrev pub becomes_idle : ℕ → Waits → Waits
becomes_idle shard w = record w { at_work = w.at_work - 1; shards = at_shard shard one_idle w.shards }

-- a worker of the shard who had found no job goes on
abbrev pub goes_on : ℕ → Waits → Waits
goes_on shard w = record w { at_work = plus w.at_work 1; shards = at_shard shard one_goes_on w.shards }

-- a message may wait for the shard
abbrev pub becomes_ready : ℕ → Waits → Waits
becomes_ready shard w = record w { shards = at_shard shard idle_are_ready w.shards }

-- no message waits for the shard
abbrev pub is_in_vain : ℕ → Waits → Waits
is_in_vain shard w = record w { shards = at_shard shard ready_are_idle w.shards }

-- the workers of the shard who are ready are woken
abbrev pub wakes : ℕ → Waits → Waits
wakes shard w = record w {
  at_work = plus w.at_work (wait_of shard w.shards).ready;
  shards = at_shard shard ready_are_woken w.shards;
}

-- one who has backed off is woken, if there is any
abbrev pub wakes_backed_off : Waits → Waits
wakes_backed_off w = if w.backed_off.asleep == 0 then w else record w {
  at_work = plus w.at_work 1;
  backed_off = one_is_woken w.backed_off;
}

-- the workers of the shard that was found are woken, else one who has backed off
abbrev pub wakes_found : Option ℕ → Waits → Waits
wakes_found (Some shard) w = wakes shard w
wakes_found None w = wakes_backed_off w

-- the workers of the first shard that is ready are woken, else one who has backed off
abbrev pub wakes_one : Waits → Waits
wakes_one w = wakes_found (position is_ready w.shards) w

-- who is woken so, and is to be notified
abbrev pub woken_found : Option ℕ → Waits → Woken
woken_found (Some shard) w = OfShard shard
woken_found None w = if w.backed_off.asleep == 0 then Nobody else OneBackedOff

abbrev pub woken_by : Waits → Woken
woken_by w = woken_found (position is_ready w.shards) w

-- the workers of the first shards who are idle or ready are woken
abbrev pub wakes_first : ℕ → Waits → Waits
wakes_first zero w = w
wakes_first (suc n) w = wakes n (becomes_ready n (wakes_first n w))

-- all workers who are idle or ready are woken
abbrev pub wakes_all : Waits → Waits
wakes_all w = wakes_first (length w.shards) w

-- and all who have backed off
abbrev pub wakes_everybody : Waits → Waits
wakes_everybody w = let all = wakes_all w in record all {
  at_work = plus all.at_work all.backed_off.asleep;
  backed_off = all_are_woken all.backed_off;
}

-- a worker backs off
abbrev pub backs_off : Waits → Waits
backs_off w = record w { at_work = w.at_work - 1; backed_off = one_backs_off w.backed_off }

-- a worker leaves, and wakes all for whom a message may wait, and one who has backed off
abbrev pub leaves : Waits → Waits
leaves w = wakes_one (wakes_all (record w { at_work = w.at_work - 1 }))

-- one of the shard who was woken runs
abbrev pub runs : ℕ → Waits → Waits
runs shard w = record w { shards = at_shard shard one_runs w.shards }

-- one who had backed off, and was woken, runs
abbrev pub resumes : Waits → Waits
resumes w = record w { backed_off = one_resumes w.backed_off }

-- WORKERS AT A DESK

-- is_finished: the engineers make no more calls; may_be_held: a gate may hold one worker until another has gone on;
-- is_much_work: the last outcomes were much work
pub record WorkersBook : Type 0 where
  pub is_finished : Bool
  pub waits : Waits
  pub may_be_held : Bool
  pub is_much_work : Bool

abbrev pub no_workers : ℕ → WorkersBook
no_workers shards = record {
  is_finished = false;
  waits = nobody_there shards;
  may_be_held = false;
  is_much_work = false;
}

abbrev pub with_waits : (Waits → Waits) → WorkersBook → WorkersBook
with_waits change w = record w { waits = change w.waits }

-- whoever is ready is woken at once, whoever is at work
abbrev pub wakes_each : WorkersBook → Bool
wakes_each w = w.may_be_held || w.is_much_work

-- whoever is ready is woken at once, and not when another finds no job, or after many turns of another
abbrev pub wakes_at_once : WorkersBook → Bool
wakes_at_once w = wakes_each w || (w.waits.at_work == 0)

-- a message may wait for the shard: whoever of it is idle is ready, and woken at once or later
abbrev pub made_ready : ℕ → WorkersBook → WorkersBook
made_ready shard w = let ready = with_waits (becomes_ready shard) w in
    if wakes_at_once w then with_waits (wakes shard) ready else ready

-- the workers end: the engineers have finished, and no message waits, or all workers are idle
abbrev pub is_over : Bool → WorkersBook → Bool
is_over is_quiet w = w.is_finished && (is_quiet || (w.waits.at_work == 0))

abbrev pub wait_at : ℕ → WorkersBook → ShardWait
wait_at shard w = wait_of shard w.waits.shards
