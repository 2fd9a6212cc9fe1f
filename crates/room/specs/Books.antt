-- What contracts see of a room and of its seats.
use Rattle.std.specs.Prelude.{◌≡◌, ℕ, ◌+◌, ◌&&◌, not, Bool, true, false, zero, suc, List, [], ◌∷◌, ◌++◌, count_by, if◌then◌else◌}
use mathlib.Core.List.{IsPrefix}
use Rattle.net_conf.specs.declared.refusal.Refusal.TheVariants.{Memory}
use Rattle.sim_event.specs.declared.entry.Entry.{Entry}
use Rattle.sim_event.specs.declared.entry.Call.{Call}
use Rattle.sim_event.specs.declared.event.Event.{Event}
use Rattle.sim_event.specs.declared.event.Event.TheVariants.{Edit as AnEdit}
use Rattle.sim_event.specs.declared.reply.Reply.{Reply}
use Rattle.sim_event.specs.declared.reply.Reply.TheVariants.{Refused}
use Rattle.reference_machine.specs.Network.{Network}
use Rattle.reference_machine.specs.Machine.{nothing, step, is_refusal}
use Rattle.reference_machine.specs.Histories.{IsLegal, state_after}
use Rattle.cell_engine.specs.State.{State, network}
use Rattle.sim_core.specs.Counting.{Counts}

-- history: the calls that were made, the first first; engine: the machine, as it stands; decided: how many routes it
-- has decided anew; seats: how many there are
pub record RoomBook : Type 0 where
  pub history : List Entry
  pub engine : State
  pub decided : ℕ
  pub seats : ℕ

-- notes: the calls that were made from the seat, the first first
pub record SeatBook : Type 0 where
  pub number : ℕ
  pub count : ℕ
  pub notes : List Call

-- the calls take the count from n to m: at each it rises by the number of routes that the event decides anew, by none
-- where it is refused
abbrev pub AreCounted : Network → ℕ → List Entry → ℕ → Type 0
AreCounted s n [] m = m ≡ n
AreCounted s n (e ∷ es) m = (k : ℕ) × Counts s e.event e.reply n k × AreCounted (step s e.event).next k es m

-- the history is legal, the machine stands where it leaves it, and has counted the routes that its calls decide anew
pub record IsKept (room : RoomBook) : Type 0 where
  pub legal : IsLegal room.history
  pub state : network room.engine ≡ state_after room.history
  pub counted : AreCounted nothing 0 room.history room.decided

-- the seat is the same, and its notes go on from what they were
pub record GoesOn (old new : SeatBook) : Type 0 where
  pub same : new.number ≡ old.number
  pub goes_on : IsPrefix old.notes new.notes

-- SEATS AT FIRST

abbrev pub blank_seat : ℕ → SeatBook
blank_seat number = record { number = number; count = 0; notes = [] }

-- the seats of a new room: their numbers are 0 to n - 1, in order
abbrev pub blank_seats : ℕ → List SeatBook
blank_seats zero = []
blank_seats (suc n) = blank_seats n ++ blank_seat n ∷ []

-- CALLS

-- there was no memory
abbrev pub is_memory : Reply → Bool
is_memory (Refused Memory) = true
is_memory _ = false

-- the state after a call that got this reply
abbrev pub stepped : Network → Event → Reply → Network
stepped s event reply = if is_memory reply then s else (step s event).next

-- the history after a call from the seat of this number that got this reply
abbrev pub recorded : List Entry → ℕ → Event → Reply → List Entry
recorded h number event reply = if is_memory reply then h else h ++ record {
  seat = number;
  event = event;
  reply = reply;
} ∷ []

-- the seat with one call more
abbrev pub with_call : SeatBook → Event → Reply → SeatBook
with_call seat event reply = record {
  number = seat.number;
  count = seat.count + 1;
  notes = seat.notes ++ record { event = event; reply = reply } ∷ [];
}

-- the seat after a call that got this reply
abbrev pub noted : SeatBook → Event → Reply → SeatBook
noted seat event reply = if is_memory reply then seat else with_call seat event reply

-- VERSIONS

abbrev pub is_edit : Event → Bool
is_edit (AnEdit e) = true
is_edit _ = false

abbrev pub is_accepted_edit : Entry → Bool
is_accepted_edit e = is_edit e.event && not (is_refusal e.reply)

-- how many edits were accepted
abbrev pub version_of : List Entry → ℕ
version_of h = count_by is_accepted_edit h
