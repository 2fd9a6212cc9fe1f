-- Outcomes that are committed one after another.
use Rattle.std.proofs.Common.{List, [], ◌∷◌, ◌++◌, refl, subst}
use Rattle.room.specs.declared.room.commit.Committed.{Committed}
use Rattle.room.specs.declared.room.commit.Committed.TheVariants.{Delivered, Stale}
use Rattle.room.specs.Books.{RoomBook, SeatBook, GoesOn}
use Rattle.room.specs.Jobs.{Job}
use Rattle.room.specs.Commits.{IsCommitted, AreCommitted, delivery_of}
use Rattle.room.proofs.Following.{goes_on_further, goes_on_same, with_call_goes_on}

-- one more
pub committed_push : (room : RoomBook) (seat : SeatBook) (xs : List Job) (x : Job) (next : RoomBook) (after : SeatBook)
    (told : Committed) (room' : RoomBook) (seat' : SeatBook)
    → AreCommitted room seat xs next after → IsCommitted next after x told room' seat' →
    AreCommitted room seat (xs ++ x ∷ []) room' seat'
committed_push room seat [] x next after told room' seat' done one = (
  room',
  seat',
  told,
  subst (λ (r : RoomBook). IsCommitted r seat x told room' seat') done.0
      (subst (λ (s : SeatBook). IsCommitted next s x told room' seat') done.1 one),
  (refl, refl),
)
committed_push room seat (w ∷ ws) x next after told room' seat' done one =
    (done.0, done.1, done.2, done.3, committed_push done.0 done.1 ws x next after told room' seat' done.4 one)

goes_on_one : (room : RoomBook) (seat : SeatBook) (x : Job) (told : Committed) (next : RoomBook) (after : SeatBook) →
    IsCommitted room seat x told next after → GoesOn seat after
goes_on_one room seat x (Delivered reply) next after is = with_call_goes_on seat (delivery_of x) reply after is.notes
goes_on_one room seat x (Stale newer) next after is = goes_on_same seat after is.2

-- the seat goes on
pub goes_on_all : (room : RoomBook) (seat : SeatBook) (xs : List Job) (room' : RoomBook) (seat' : SeatBook) →
    AreCommitted room seat xs room' seat' → GoesOn seat seat'
goes_on_all room seat [] room' seat' done = goes_on_same seat seat' done.1
goes_on_all room seat (x ∷ xs) room' seat' done =
    goes_on_further seat done.1 seat' (goes_on_one room seat x done.2 done.0 done.1 done.3)
    (goes_on_all done.0 done.1 xs room' seat' done.4)
