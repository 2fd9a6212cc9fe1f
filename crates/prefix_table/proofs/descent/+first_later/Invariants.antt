use Rattle.std.proofs.Common.{◌-◌}
use Rattle.prefix_table.specs.Trie.{prefix_at}
use Rattle.prefix_table.proofs.descent.+first_later.Given as goal

-- how many bits a longer prefix can have
abbrev pub decreases-first_later : goal.decreases-first_later
decreases-first_later l = 32 - (prefix_at l.nodes.now l.at.0).len
