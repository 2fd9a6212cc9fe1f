-- No public contract cites this file. Workers between the start of their threads and the end.
use Rattle.std.specs.Prelude.{◌≡◌, ◌<◌, ℕ, ◌+◌, ◌%◌, List, [], ◌∷◌}
use Rattle.room.specs.Books.{SeatBook}
use Rattle.desk.specs.Desks.{IsWorkedAt}
use Rattle.desk.specs.declared.worker_threads.Worker.{Worker}
use Rattle.desk.specs.declared.worker_threads.Worker.TheVariants.{Started, LeftOut}

-- of the worker's first n jobs, if there are any, a gate was told of the last
abbrev pub IsTold : (ℕ → Type 0) → ℕ → Type 0
IsTold told n = 0 < n → told n

-- the worker at this place was given the seat: its thread promises so many turns of it, for the shard of its place,
-- modulo the shards; or it is left out, and so the seat is back
abbrev pub IsToWork : {L : Type 0} → ℕ → ℕ → ℕ → SeatBook → Worker L → Type 0
IsToWork place shards turns seat (Started thread) =
    let promise = thread.promise in (promise.shard ≡ place % shards) × (promise.shards ≡ shards)
    × (promise.turns ≡ turns) × (promise.given.value ≡ seat)
IsToWork place shards turns seat (LeftOut back) = IsWorkedAt place shards turns seat back

-- so was each worker from this place on, the seat of its position
abbrev pub AllToWork : {L : Type 0} → ℕ → ℕ → ℕ → List SeatBook → List (Worker L) → Type 0
AllToWork place shards turns [] [] = Unit {0}
AllToWork place shards turns (x ∷ xs) (w ∷ ws) = IsToWork place shards turns x w
    × AllToWork (place + 1) shards turns xs ws
AllToWork place shards turns [] (w ∷ ws) = ⊥
AllToWork place shards turns (x ∷ xs) [] = ⊥
