-- How much a graph holds.
use Rattle.std.specs.Prelude.{ℕ}

-- the most nodes of a graph (own)
abbrev pub most_nodes : ℕ
most_nodes = 4096
