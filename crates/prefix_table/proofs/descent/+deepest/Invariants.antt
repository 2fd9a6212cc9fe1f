use Rattle.std.proofs.Common.{◌-◌}
use Rattle.prefix_table.specs.Trie.{prefix_at}
use Rattle.prefix_table.proofs.descent.+deepest.Given as goal

-- how many bits are left to the prefix
abbrev pub decreases-deepest : goal.decreases-deepest
decreases-deepest l = l.prefix.len - (prefix_at l.nodes.now l.at.0).len
