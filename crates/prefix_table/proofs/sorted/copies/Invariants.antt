use Rattle.std.proofs.Common.{◌≡◌, take}
use Rattle.prefix_table.proofs.sorted.copies.Given as goal

-- the entries so far are copied
abbrev pub invariant-loop-entry : goal.invariant-loop-entry
invariant-loop-entry g l = l.copies.items ≡ take l.entry-index l.entries
