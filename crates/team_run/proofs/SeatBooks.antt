-- Seats whose books differ, by their numbers and notes alone.
use Rattle.std.proofs.Common.{◌≡◌, ℕ, ◌+◌, cond, nat_eq, List, [], ◌∷◌, map, fold, refl, sym, ap, ◌∙◌, inl, inr}
use Rattle.std.specs.List.{AllByRecursion}
use Rattle.std.specs.Option.{option_map}
use Rattle.std.proofs.lemmas.List.{length-map}
use Rattle.std.proofs.lemmas.Option.{slice_get-map}
use Rattle.sim_event.specs.declared.entry.Entry.{Entry}
use Rattle.reference_machine.specs.Histories.{calls_of}
use Rattle.room.specs.declared.room.record.Fault.{Fault}
use Rattle.room.specs.declared.room.record.Fault.TheVariants.{MissingSeat, BookDiffers}
use Rattle.room.specs.Books.{SeatBook}
use Rattle.room.specs.Closing.{AllAgree, IsEachOnce, IsFault}
use Rattle.team_run.specs.TeamRun.{Notes, AreComplete, HaveOtherBooks}
use Rattle.team_run.specs.Playing.{HasUnlike, notes_of}

-- as many have the number
counted : (number n : ℕ) (seats : List SeatBook) →
    fold (λ a (seat : Notes). a + cond (nat_eq seat.0 number) 1 0) n (map notes_of seats)
    ≡ fold (λ a (seat : SeatBook). a + cond (nat_eq seat.number number) 1 0) n seats
counted number n [] = refl
counted number n (seat ∷ seats) = counted number (n + cond (nat_eq seat.number number) 1 0) seats

agree : (history : List Entry) (seats : List SeatBook)
    → AllByRecursion (λ (seat : Notes). calls_of seat.0 history ≡ seat.1) (map notes_of seats) → AllAgree history seats
agree history [] all = tt
agree history (seat ∷ seats) all = (all.0, agree history seats all.1)

each_once : (count : ℕ) (history : List Entry) (seats : List SeatBook) →
    AreComplete count history (map notes_of seats) → IsEachOnce count seats
each_once count history seats all = record {
  as_many = sym (length-map seats notes_of) ∙ all.as_many;
  once = λ number low. sym (counted number 0 seats) ∙ all.once number low;
}

-- one is unlike its calls
pub of_unlike : (seats : List SeatBook) → HasUnlike seats → HaveOtherBooks (map notes_of seats)
of_unlike seats h = inl (
  h.0,
  notes_of h.1,
  slice_get-map notes_of seats h.0 ∙ ap (option_map notes_of) h.2,
  record { history = h.3.history; legal = h.3.legal; other = h.3.calls },
)

-- the room was not closed
pub of_fault : (count : ℕ) (history : List Entry) (seats : List SeatBook) (fault : Fault) → IsFault count history seats fault
    → HaveOtherBooks (map notes_of seats)
of_fault count history seats MissingSeat h = inr (count, history, λ all. h (each_once count history seats all))
of_fault count history seats BookDiffers h = inr (count, history, λ all. h.1 (agree history seats all.calls))
