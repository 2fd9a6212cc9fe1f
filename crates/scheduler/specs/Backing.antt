-- Workers who back off from a lock that others hold often.
use Rattle.std.specs.Prelude.{◌-◌, ◌*◌, ◌^◌, ◌%◌, Bool, min, ◌==◌, nat_lt, if◌then◌else◌}
use Rattle.scheduler.specs.declared.backoff.BackedOff.{BackedOff}
use Rattle.scheduler.specs.declared.backoff.Backoff.{Backoff}
use Rattle.scheduler.specs.declared.backoff.Between.{Between}
use Rattle.scheduler.specs.declared.backoff.Between.TheVariants.{GoOn, BackOff, WakeOne}
use Rattle.scheduler.specs.Counts.{plus}

-- THOSE WHO HAVE BACKED OFF

abbrev pub none_backed_off : BackedOff
none_backed_off = record { asleep = 0; woken = 0; turns_to_a_wakeup = 1024 }

-- one more backs off: the last was woken too early, so twice as many turns are made to the next wakeup, 8,192 at most
abbrev pub one_backs_off : BackedOff → BackedOff
one_backs_off b = record {
  asleep = plus b.asleep 1;
  woken = b.woken;
  turns_to_a_wakeup = min (min (b.turns_to_a_wakeup * 2) (2 ^ 64 - 1)) 8192;
}

abbrev pub one_is_woken : BackedOff → BackedOff
one_is_woken b = record b { asleep = b.asleep - 1; woken = plus b.woken 1 }

abbrev pub all_are_woken : BackedOff → BackedOff
all_are_woken b = record b { asleep = 0; woken = plus b.woken b.asleep }

-- one who was woken runs
abbrev pub one_resumes : BackedOff → BackedOff
one_resumes b = record b { woken = b.woken - 1 }

-- ONE WORKER

-- one more turn at once
abbrev pub with_turn : Backoff → Backoff
with_turn b = record b { turns = plus b.turns 1 }

-- begins anew, after a wait
abbrev pub begun_anew : Backoff → Backoff
begun_anew b = record b { contended = 0; turns = 0 }

-- found the lock taken more often than once in eight turns
abbrev pub is_in_the_way : Backoff → Bool
is_in_the_way b = nat_lt b.turns (min (b.contended * 8) (2 ^ 64 - 1))

-- so many turns of little work were made that another is to be woken
abbrev pub is_time_to_wake : Backoff → Bool
is_time_to_wake b = (b.turns % b.turns_to_a_wakeup) == 0

-- what the worker does after its turns at once, this one among them: after much work it wakes another; else it backs
-- off where it is in the way; else it wakes another where it is time to
abbrev pub between : Backoff → Between
between b = if b.is_much_work then WakeOne else
    if is_in_the_way b then BackOff else
    if is_time_to_wake b then WakeOne else GoOn

abbrev pub after_turn : Backoff → Backoff
after_turn b = if b.is_much_work then b else if is_in_the_way b then begun_anew b else b
