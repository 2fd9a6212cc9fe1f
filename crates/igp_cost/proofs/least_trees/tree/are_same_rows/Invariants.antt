use Rattle.std.proofs.Common.{◌≡◌, ◌↔◌, drop, length}
use Rattle.igp_cost.proofs.least_trees.tree.are_same_rows.Given as goal

-- the lists are the same where what is left of them is
abbrev pub invariant-loop-index : goal.invariant-loop-index
invariant-loop-index l = ((l.some ≡ l.others) ↔ (drop l.index l.some ≡ drop l.index l.others))
    × (length l.some ≡ length l.others)
