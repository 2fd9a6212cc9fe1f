use Rattle.prefix_table.proofs.Halves.{bits_left}
use Rattle.prefix_table.proofs.walk.+add_below.Given as goal

-- how many bits a longer prefix can have
abbrev pub decreases-add_below : goal.decreases-add_below
decreases-add_below g l = bits_left l.nodes.now l.at
