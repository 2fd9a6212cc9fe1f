use Rattle.std.proofs.Common.{◌≡◌, ◌+◌, ◌≤◌, ◌++◌, length, drop}
use Rattle.team_run.specs.Playing.{engineers_of}
use Rattle.team_run.proofs.team.seated.Given as goal

-- those that have a seat and those that have none yet are all; and the workers' seats are behind theirs
abbrev pub invariant-loop-script : goal.invariant-loop-script
invariant-loop-script g l =
    (goal.iterator-loop-script g).can_next l.script-iterator ×
    (goal.iterator-loop-script g).is_finite l.script-iterator ×
    (length l.engineers.items + length l.script-iterator.rest.items ≡ length l.fn.scripts.items)
    × (length l.script-iterator.rest.items ≤ length l.seats.rest.items)
    × (engineers_of 1 l.fn.scripts.items l.fn.seats.items ≡ l.engineers.items
    ++ engineers_of (length l.engineers.items + 1) l.script-iterator.rest.items l.seats.rest.items)
    × (drop (length l.fn.scripts.items) l.fn.seats.items
    ≡ drop (length l.script-iterator.rest.items) l.seats.rest.items)
