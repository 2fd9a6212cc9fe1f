use Rattle.std.proofs.Common.{◌-◌}
use Rattle.prefix_table.specs.Trie.{prefix_at}
use Rattle.prefix_table.proofs.descent.+closest.Given as goal

-- how many bits are left to the prefix
abbrev pub decreases-closest : goal.decreases-closest
decreases-closest l = l.prefix.len - (prefix_at l.nodes.now l.at.0).len
