use Rattle.std.proofs.Common.{ℕ, ◌<◌, suc, get_or}
use Rattle.path_attr.proofs.communities.are_ascending.Given as goal

-- the numbers up to the index ascend
abbrev pub invariant-loop-i : goal.invariant-loop-i
invariant-loop-i l = (k : ℕ) → suc k < l.i → get_or l.numbers k 0 < get_or l.numbers (suc k) 0
