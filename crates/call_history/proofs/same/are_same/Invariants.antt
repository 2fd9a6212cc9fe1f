use Rattle.std.proofs.Common.{◌≡◌, ◌↔◌, drop, length}
use Rattle.call_history.proofs.same.are_same.Given as goal

-- the lists are the same where what is left of them is
abbrev pub invariant-loop-index : goal.invariant-loop-index
invariant-loop-index g l = ((l.some ≡ l.others) ↔ (drop l.index l.some ≡ drop l.index l.others))
    × (length l.some ≡ length l.others)
