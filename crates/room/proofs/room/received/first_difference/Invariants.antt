use Rattle.std.proofs.Common.{◌≡◌, ◌≤◌, drop, length}
use Rattle.room.specs.Differences.{first_difference}
use Rattle.room.proofs.room.received.first_difference.Given as goal

-- what is left of the lists differs where they do
abbrev pub invariant-loop-index : goal.invariant-loop-index
invariant-loop-index l = (first_difference l.had l.now ≡ first_difference (drop l.index l.had) (drop l.index l.now))
    × (l.index ≤ length l.now)
