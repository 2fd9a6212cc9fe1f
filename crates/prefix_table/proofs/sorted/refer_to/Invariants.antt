use Rattle.std.proofs.Common.{◌≡◌, take}
use Rattle.prefix_table.specs.Tables.{all_seen}
use Rattle.prefix_table.proofs.sorted.refer_to.Given as goal

-- the entries so far
abbrev pub invariant-loop-entry : goal.invariant-loop-entry
invariant-loop-entry g l = all_seen l.found.items ≡ take l.entry-index l.entries
