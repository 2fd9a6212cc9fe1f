use Rattle.std.proofs.Common.{◌≡◌, List, ◌++◌, All}
use Rattle.room.specs.Books.{RoomBook}
use Rattle.room.specs.Jobs.{Job, IsSeenIn}
use Rattle.room.specs.Commits.{AreCommitted}
use Rattle.room.proofs.Known.{IsKnown}
use Rattle.room.proofs.room.Room.commit_all.Given as goal

-- the first of the outcomes came back; those that are left were seen in one room, where the known receiver's site is
-- what it is now
abbrev pub invariant-loop-done : goal.invariant-loop-done
invariant-loop-done g l =
    (goal.iterator-loop-done g).can_next l.done-iterator ×
    (goal.iterator-loop-done g).is_finite l.done-iterator ×
    ((first : List Job) × (l.fn.outcomes ≡ first ++ l.done-iterator.rest.items)
    × AreCommitted l.initial.self l.initial.seat first l.self l.seat) ×
    ((room : RoomBook) × All (IsSeenIn room) l.done-iterator.rest.items × IsKnown room l.self l.known)
