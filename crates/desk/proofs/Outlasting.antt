-- What outlasts the lock of what was done under it.
use Rattle.std.proofs.Common.{◌≡◌, List, [], ◌∷◌, Result, Ok, Err, OnOk, OnErr, sym, ap, subst, ◌∙◌}
use Rattle.sim_event.specs.declared.event.Event.{Event}
use Rattle.sim_event.specs.declared.reply.Reply.{Reply}
use Rattle.reference_machine.specs.Machine.{step}
use Rattle.cell_engine.specs.State.{network}
use Rattle.room.specs.declared.room.commit.Committed.{Committed}
use Rattle.room.specs.declared.room.commit.Committed.TheVariants.{Delivered, Stale}
use Rattle.room.specs.Books.{RoomBook, SeatBook, IsKept}
use Rattle.room.specs.Jobs.{Job}
use Rattle.room.specs.Commits.{IsCommitted, AreCommitted, IsBrokenOff, delivery_of}
use Rattle.room.proofs.Grown.{kept_push}
use Rattle.desk.specs.Desks.{IsReplied, IsSeatAfter, IsSeatAfterAll, IsSeatAfterFirst}

-- the machine replied so in the state of a legal history
pub replied : (room : RoomBook) (event : Event) (reply : Reply) → IsKept room →
    reply ≡ (step (network room.engine) event).reply → IsReplied event reply
replied room event reply kept is = record {
  history = room.history;
  legal = kept.legal;
  replies = is
      ∙ ap (λ s. (step s event).reply) kept.state;
}

-- a room that was kept is kept after a commit
kept_after : (room : RoomBook) (seat : SeatBook) (x : Job) (told : Committed) (room' : RoomBook) (seat' : SeatBook) →
    IsKept room → IsCommitted room seat x told room' seat' → IsKept room'
kept_after room seat x (Delivered reply) room' seat' kept is =
    kept_push room room' seat.number (delivery_of x) reply kept is.history is.replies is.state is.counted
kept_after room seat x (Stale newer) room' seat' kept is = subst IsKept (sym is.1) kept

pub seat_after : (room : RoomBook) (seat : SeatBook) (x : Job) (told : Committed) (room' : RoomBook)
    (seat' : SeatBook) → IsKept room → IsCommitted room seat x told room' seat' → IsSeatAfter seat x told seat'
seat_after room seat x (Delivered reply) room' seat' kept is =
    (is.notes, replied room (delivery_of x) reply kept is.replies)
seat_after room seat x (Stale newer) room' seat' kept is = (is.2, record { room = room; kept = kept; moved = is.0 })

after_all : (room : RoomBook) (seat : SeatBook) (xs : List Job) (room' : RoomBook) (seat' : SeatBook) → IsKept room →
    AreCommitted room seat xs room' seat' → IsSeatAfterAll seat xs seat'
after_all room seat [] room' seat' kept done = done.1
after_all room seat (x ∷ xs) room' seat' kept done = (
  done.2,
  done.1,
  seat_after room seat x done.2 done.0 done.1 kept done.3,
  after_all done.0 done.1 xs room' seat' (kept_after room seat x done.2 done.0 done.1 kept done.3) done.4,
)

after_first : (room : RoomBook) (seat : SeatBook) (xs : List Job) (room' : RoomBook) (seat' : SeatBook) → IsKept room →
    IsBrokenOff room seat xs room' seat' → IsSeatAfterFirst seat xs seat'
after_first room seat xs room' seat' kept is =
    record {
      first = is.first;
      others = is.wanting ∷ is.others;
      parts = is.parts;
      after = subst (λ (s : SeatBook). IsSeatAfterAll seat is.first s) (sym is.left.notes)
          (after_all room seat is.first is.next is.after kept is.committed);
    }

-- where all were committed
pub all_after : {A E : Type 0} (told : Result A E) (room : RoomBook) (seat : SeatBook) (xs : List Job)
    (room' : RoomBook) (seat' : SeatBook) → IsKept room
    → OnOk told (AreCommitted room seat xs room' seat') → OnOk told (IsSeatAfterAll seat xs seat')
all_after (Ok a) room seat xs room' seat' kept done = after_all room seat xs room' seat' kept done
all_after (Err e) room seat xs room' seat' kept done = tt

-- where that was broken off
pub first_after : {A E : Type 0} (told : Result A E) (room : RoomBook) (seat : SeatBook) (xs : List Job)
    (room' : RoomBook) (seat' : SeatBook) → IsKept room
    → OnErr told (IsBrokenOff room seat xs room' seat') → OnErr told (IsSeatAfterFirst seat xs seat')
first_after (Ok a) room seat xs room' seat' kept is = tt
first_after (Err e) room seat xs room' seat' kept is = after_first room seat xs room' seat' kept is
