use Rattle.std.proofs.Common.{◌≤◌, ◌+◌, length, max, All}
use Rattle.room.specs.Jobs.{IsOfShard, IsSeenIn, AreApart}
use Rattle.room.proofs.room.Room.add_jobs.Given as goal

-- each is of what is in the room, of the shard, of a cell of its own; there are more, by one a turn at most
abbrev pub invariant-loop : goal.invariant-loop
invariant-loop g l =
    All (IsSeenIn l.self) l.jobs.items ×
    All (IsOfShard l.shard l.shards) l.jobs.items ×
    AreApart l.jobs.items ×
    (length l.jobs.items + 1 ≤ length l.initial.jobs.items + l.counter) ×
    (length l.initial.jobs.items ≤ length l.jobs.items) ×
    (l.counter ≤ max l.most 1)
