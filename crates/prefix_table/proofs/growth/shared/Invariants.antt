use Rattle.std.proofs.Common.{◌≤◌, ◌-◌}
use Rattle.net_prefix.specs.Prefix.{Covers}
use Rattle.prefix_table.specs.Places.{prefix_around}
use Rattle.prefix_table.proofs.growth.shared.Given as goal

-- the first bits that the prefixes share so far
abbrev pub invariant-loop-len : goal.invariant-loop-len
invariant-loop-len l = record {
  long : l.from ≤ l.len;
  short : l.len ≤ l.first.len;
  both : Covers (prefix_around l.first.addr l.len) l.second;
}

abbrev pub decreases-loop-len : goal.decreases-loop-len
decreases-loop-len l = l.first.len - l.len
