use Rattle.std.proofs.Common.{◌+◌, ◌<◌, ◌≤◌}
use Rattle.net_prefix.specs.Prefix.{Prefix}
use Rattle.prefix_table.specs.Tables.{IsMatch}
use Rattle.prefix_table.proofs.sorted.SortedTablePrefixTable.longest.Given as goal

-- the lengths left are of prefixes that match, and no key that matches is longer
abbrev pub invariant-loop-lengths : goal.invariant-loop-lengths
invariant-loop-lengths g l = record {
  some_prefix : l.lengths ≤ 33;
  short : l.lengths ≤ l.most + 1;
  longest : (q : Prefix) → IsMatch l.self l.addr l.most q → q.len < l.lengths;
}

abbrev pub decreases-loop-lengths : goal.decreases-loop-lengths
decreases-loop-lengths g l = l.lengths
