-- When a room can be closed.
use Rattle.std.specs.Prelude.{◌≡◌, ℕ, ◌<◌, nat_eq, List, length, count_by, sum_by}
use Rattle.std.specs.List.{AllByRecursion}
use Rattle.sim_event.specs.declared.entry.Entry.{Entry}
use Rattle.reference_machine.specs.Histories.{calls_of}
use Rattle.room.specs.declared.room.record.Fault.{Fault}
use Rattle.room.specs.declared.room.record.Fault.TheVariants.{MissingSeat, BookDiffers}
use Rattle.room.specs.Books.{SeatBook}

-- how many of the seats have the number
abbrev pub times : ℕ → List SeatBook → ℕ
times n seats = count_by (λ s. nat_eq s.number n) seats

-- the numbers are each of 0 to n - 1 once
pub record IsEachOnce (n : ℕ) (seats : List SeatBook) : Type 0 where
  pub as_many : length seats ≡ n
  pub once : (k : ℕ) → k < n → times k seats ≡ 1

-- the seat's notes are its calls in the history
abbrev pub Agrees : List Entry → SeatBook → Type 0
Agrees h seat = calls_of seat.number h ≡ seat.notes

abbrev pub AllAgree : List Entry → List SeatBook → Type 0
AllAgree h seats = AllByRecursion (Agrees h) seats

-- the calls that the seats counted
abbrev pub counted : List SeatBook → ℕ
counted seats = sum_by (λ s. s.count) seats

-- why a room is not closed
abbrev pub IsFault : ℕ → List Entry → List SeatBook → Fault → Type 0
IsFault n h seats MissingSeat = ¬ IsEachOnce n seats
IsFault n h seats BookDiffers = IsEachOnce n seats × (¬ AllAgree h seats)
