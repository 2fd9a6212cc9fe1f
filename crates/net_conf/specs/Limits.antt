-- How much a configuration holds. There may be as many routers and virtual peers as nodes of a graph.
use Rattle.std.specs.Prelude.{ℕ}

-- the most links (own)
abbrev pub most_links : ℕ
most_links = 16384

-- the most sessions of an address (own)
abbrev pub most_sessions : ℕ
most_sessions = 256
