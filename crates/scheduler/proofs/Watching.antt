-- Nobody sleeps unwatched, whatever happens at a desk.
use Rattle.std.proofs.Common.{rules, ◌≡◌, ◌≢◌, ◌<◌, ℕ, zero, suc, Bool, true, false, cond, List, [], ◌∷◌, All, length, nat_lt, slice_index_or, Option, Some, None, refl, sym, subst, arith, ◌==◌}
use Rattle.std.specs.List.{position, position_or_len}
use Rattle.std.proofs.lemmas.Bool.Decides.{nat_tests}
use Rattle.std.proofs.lemmas.List.{set-set}
use Rattle.std.proofs.lemmas.List.Elements.{All-set}
use Rattle.std.proofs.lemmas.List.Sums.{fails_before_first, passes_at_first}
use Rattle.scheduler.specs.declared.shard_waits.ShardWait.{ShardWait}
use Rattle.scheduler.specs.declared.waits.Waits.{Waits}
use Rattle.scheduler.specs.Counts.{plus, at_shard, wait_of, nobody_waits, is_ready, idle_are_ready, ready_are_woken}
use Rattle.scheduler.specs.Waiting.{IsWatched, becomes_ready, wakes, wakes_found, wakes_backed_off, wakes_one, wakes_first, wakes_all, wakes_everybody}

-- nobody of the shard is ready
abbrev pub IsNoneReady : ShardWait → Type 0
IsNoneReady s = s.ready ≡ 0

-- a sum of counts is nothing only where both are
pub plus_none : (a b : ℕ) → plus a b ≡ 0 → (a ≡ 0) × (b ≡ 0)
plus_none a b none = (grind arith, grind arith)

-- where nobody of any shard is ready, nobody is of this one
pub none_of : (shard : ℕ) (waits : List ShardWait) → All IsNoneReady waits → IsNoneReady (wait_of shard waits)
none_of shard [] all = refl
none_of zero (w ∷ ws) all = all 0 nobody_waits (omega arith)
none_of (suc n) (w ∷ ws) all = none_of n ws (λ k d lt. all (suc k) d (omega arith))

-- nor after those of a shard changed, and whoever of them was ready was woken
pub none_ready_woken : (change : ShardWait → ShardWait) (shard : ℕ) (waits : List ShardWait) → All IsNoneReady waits
    → All IsNoneReady (at_shard shard ready_are_woken (at_shard shard change waits))
none_ready_woken change shard waits all =
    let changed = at_shard shard change waits in
    let new = ready_are_woken (wait_of shard changed) in
    subst (All IsNoneReady) (sym (set-set waits shard (change (wait_of shard waits)) new))
    (All-set IsNoneReady waits shard new refl all)

some_or_none : (b : Bool) (i : ℕ) → cond b (Some i) None ≡ None → b ≡ false
some_or_none true i is = absurd (search rules)
some_or_none false i is = refl

which_some : (b : Bool) (i shard : ℕ) → cond b (Some i) None ≡ Some shard → (b ≡ true) × (i ≡ shard)
which_some true i shard is = (refl, search rules)
which_some false i shard is = absurd (search rules)

-- where no shard that is ready is found, nobody is ready
pub none_found : (waits : List ShardWait) → position is_ready waits ≡ None → All IsNoneReady waits
none_found waits none k d lt =
    let past : nat_lt (position_or_len is_ready waits) (length waits) ≡ false =
    some_or_none (nat_lt (position_or_len is_ready waits) (length waits)) (position_or_len is_ready waits) none in
    let before : k < position_or_len is_ready waits = grind (arith, nat_tests) in
    let not_ready : nat_lt 0 (slice_index_or waits k d).ready ≡ false = fails_before_first is_ready waits k d before in
    grind (arith, nat_tests)

-- the workers of the shard that is found are ready
pub some_found : (waits : List ShardWait) (shard : ℕ) → position is_ready waits ≡ Some shard →
    (wait_of shard waits).ready ≢ 0
some_found waits shard found none =
    let both = which_some (nat_lt (position_or_len is_ready waits) (length waits)) (position_or_len is_ready waits)
    shard found in
    let before : position_or_len is_ready waits < length waits = grind (arith, nat_tests) in
    let passes : nat_lt 0 (wait_of (position_or_len is_ready waits) waits).ready ≡ true =
    passes_at_first is_ready waits nobody_waits before in
    let passes' : nat_lt 0 (wait_of shard waits).ready ≡ true =
    subst (λ n. nat_lt 0 (wait_of n waits).ready ≡ true) both.1 passes in
    grind (arith, nat_tests)

-- WATCHED

-- whoever becomes ready is woken at once
pub watched_woken : (shard : ℕ) (w : Waits) → IsWatched w → IsWatched (wakes shard (becomes_ready shard w))
watched_woken shard w is none =
    let both = plus_none w.at_work (wait_of shard (becomes_ready shard w).shards).ready none in
    (none_ready_woken idle_are_ready shard w.shards (is both.0).0, (is both.0).1)

pub watched_first : (n : ℕ) (w : Waits) → IsWatched w → IsWatched (wakes_first n w)
watched_first zero w is = is
watched_first (suc n) w is = watched_woken n (wakes_first n w) (watched_first n w is)

pub watched_everybody : (w : Waits) → IsWatched w → IsWatched (wakes_everybody w)
watched_everybody w is none =
    let all = wakes_all w in
    let both = plus_none all.at_work all.backed_off.asleep none in
    ((watched_first (length w.shards) w is both.0).0, refl)

watched_backed_off : (w : Waits) → All IsNoneReady w.shards → (b : Bool) → (w.backed_off.asleep == 0) ≡ b →
    IsWatched (wakes_backed_off w)
watched_backed_off w all true test = rw test (λ none. (all, grind (arith, nat_tests)))
watched_backed_off w all false test =
    rw test (λ none. let both = plus_none w.at_work 1 none in absurd (grind arith))

watched_found : (found : Option ℕ) (w : Waits) → position is_ready w.shards ≡ found → IsWatched (wakes_found found w)
watched_found (Some shard) w is none =
    absurd (some_found w.shards shard is (plus_none w.at_work (wait_of shard w.shards).ready none).1)
watched_found None w is none =
    watched_backed_off w (none_found w.shards is) (w.backed_off.asleep == 0) refl none

-- once one was woken who could be, nobody sleeps unwatched
pub watched_one : (w : Waits) → IsWatched (wakes_one w)
watched_one w = watched_found (position is_ready w.shards) w refl
