-- What a caller at a desk knows of its own seat, what workers made of theirs, and why a desk is not opened.
use Rattle.std.specs.Prelude.{◌≡◌, ◌≢◌, ◌≤◌, ◌+◌, ◌%◌, ℕ, List, [], ◌∷◌, ◌++◌, length, All}
use Rattle.net_prefix.specs.declared.addr.Addr.{Addr}
use Rattle.scheduler.specs.Shards.{AreShards}
use Rattle.session_queue.specs.Shards.{shard_of}
use Rattle.sim_event.specs.declared.entry.Entry.{Entry}
use Rattle.sim_event.specs.declared.entry.Call.{Call}
use Rattle.sim_event.specs.declared.event.Event.{Event}
use Rattle.sim_event.specs.declared.event.Event.TheVariants.{Deliver}
use Rattle.sim_event.specs.declared.reply.Reply.{Reply}
use Rattle.reference_machine.specs.Machine.{step}
use Rattle.reference_machine.specs.Histories.{IsLegal, state_after, calls_of}
use Rattle.room.specs.declared.room.commit.Newer.{Newer}
use Rattle.room.specs.declared.room.commit.Committed.{Committed}
use Rattle.room.specs.declared.room.commit.Committed.TheVariants.{Delivered, Stale}
use Rattle.desk.specs.declared.desk.OpenFault.{OpenFault}
use Rattle.desk.specs.declared.desk.OpenFault.TheVariants.{Seats, Shards, Memory}
use Rattle.room.specs.Books.{RoomBook, SeatBook, IsKept, with_call}
use Rattle.room.specs.Jobs.{Job, IsSeenIn, NoneWaits}
use Rattle.room.specs.Commits.{delivery_of, IsNewer}

-- a desk: how many shards it has
pub record DeskBook : Type 0 where
  pub shards : ℕ

-- a desk has 1 to 256 seats
abbrev pub AreSeats : ℕ → Type 0
AreSeats n = (1 ≤ n) × (n ≤ 256)

-- the ledger that counts the calls: it has the name and the parts that its type says, and 256 parts, one for each seat
-- that there may be
pub record IsDeskLedger (name parts type_name type_parts : ℕ) : Type 0 where
  pub same_name : name ≡ type_name
  pub same_parts : parts ≡ type_parts
  pub one_each : parts ≡ 256

-- why a desk of so many seats and shards is not opened
abbrev pub IsOpenFault : ℕ → ℕ → OpenFault → Type 0
IsOpenFault seats shards Seats = ¬ AreSeats seats
IsOpenFault seats shards Shards = AreSeats seats × (¬ AreShards shards)
IsOpenFault seats shards Memory = AreSeats seats × AreShards shards

-- there is a legal history, in whose state the machine replies this to the event
pub record IsReplied (event : Event) (reply : Reply) : Type 0 where
  pub history : List Entry
  pub legal : IsLegal history
  pub replies : reply ≡ (step (state_after history) event).reply

-- there is a room, with a legal history, in which the job sees what it holds
pub record IsTaken (x : Job) : Type 0 where
  pub room : RoomBook
  pub kept : IsKept room
  pub seen : IsSeenIn room x

-- there is a room, with a legal history, in which no message waits for a receiver of the shard
pub record IsWithout (shard shards : ℕ) : Type 0 where
  pub room : RoomBook
  pub kept : IsKept room
  pub none : NoneWaits room shard shards

-- there is a room, with a legal history, in which this has moved since the job was taken
pub record IsMoved (x : Job) (newer : Newer) : Type 0 where
  pub room : RoomBook
  pub kept : IsKept room
  pub moved : IsNewer room x newer

-- there is a legal history, in which the seat's calls are others than its notes
pub record IsUnlike (seat : SeatBook) : Type 0 where
  pub history : List Entry
  pub legal : IsLegal history
  pub calls : calls_of seat.number history ≢ seat.notes

-- there is a legal history, in which these are the seat's calls, in their order
pub record IsNoted (seat : SeatBook) : Type 0 where
  pub history : List Entry
  pub legal : IsLegal history
  pub calls : calls_of seat.number history ≡ seat.notes

-- after its outcome is committed the seat has one call more, with the machine's reply; or something has moved, and the
-- seat is as it was
abbrev pub IsSeatAfter : SeatBook → Job → Committed → SeatBook → Type 0
IsSeatAfter seat x (Delivered reply) new = (new ≡ with_call seat (delivery_of x) reply)
    × IsReplied (delivery_of x) reply
IsSeatAfter seat x (Stale newer) new = (new ≡ seat) × IsMoved x newer

-- so it is after each of its outcomes, which are committed one after another
abbrev pub IsSeatAfterAll : SeatBook → List Job → SeatBook → Type 0
IsSeatAfterAll seat [] new = new ≡ seat
IsSeatAfterAll seat (x ∷ xs) new = (told : Committed) × (next : SeatBook) × IsSeatAfter seat x told next
    × IsSeatAfterAll next xs new

-- so it is after the first of them; then there was no memory, and the others are let go
pub record IsSeatAfterFirst (seat : SeatBook) (xs : List Job) (new : SeatBook) : Type 0 where
  pub first : List Job
  pub others : List Job
  pub parts : xs ≡ first ++ others
  pub after : IsSeatAfterAll seat first new

-- WORKERS

-- the call is a delivery to a receiver of the shard, with the machine's reply in the state of a legal history
pub record IsDeliveryOf (shard shards : ℕ) (call : Call) : Type 0 where
  pub from : Addr
  pub to : Addr
  pub delivers : call.event ≡ Deliver from to
  pub of_shard : shard_of to shards ≡ shard
  pub replied : IsReplied call.event call.reply

-- so many turns were made for the shard: the seat is the same, and has got as many calls at most, deliveries of the
-- shard all of them
pub record IsWorked (shard shards turns : ℕ) (old new : SeatBook) : Type 0 where
  pub same : new.number ≡ old.number
  pub calls : List Call
  pub goes_on : new.notes ≡ old.notes ++ calls
  pub most : length calls ≤ turns
  pub deliveries : All (IsDeliveryOf shard shards) calls

-- the worker at this place made so many turns: for the shard of its place, modulo the shards
abbrev pub IsWorkedAt : ℕ → ℕ → ℕ → SeatBook → SeatBook → Type 0
IsWorkedAt place shards turns old new = IsWorked (place % shards) shards turns old new

-- so did each worker from this place on, at the seat of its position
abbrev pub AllWorkedFrom : ℕ → ℕ → ℕ → List SeatBook → List SeatBook → Type 0
AllWorkedFrom place shards turns [] [] = Unit {0}
AllWorkedFrom place shards turns (x ∷ xs) (y ∷ ys) = IsWorkedAt place shards turns x y
    × AllWorkedFrom (place + 1) shards turns xs ys
AllWorkedFrom place shards turns [] (y ∷ ys) = ⊥
AllWorkedFrom place shards turns (x ∷ xs) [] = ⊥

-- so did all workers, from place 0 on
abbrev pub AllWorked : ℕ → ℕ → List SeatBook → List SeatBook → Type 0
AllWorked shards turns olds news = AllWorkedFrom 0 shards turns olds news
