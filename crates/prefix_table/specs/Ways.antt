-- No public contract cites this file. What is kept of a look-up, for the next one.
use Rattle.std.specs.Prelude.{◌≡◌, ◌<◌, List, length, Option, Some, None}
use Rattle.net_prefix.specs.Prefix.{Prefix, Covers}
use Rattle.prefix_table.specs.declared.way.Way.{Way}
use Rattle.prefix_table.specs.declared.node.Node.{Node}
use Rattle.prefix_table.specs.Trie.{IsClosest, prefix_at}

-- the node is on the way to the prefix
abbrev pub IsOnWay : List Node → Option Way → Type 0
IsOnWay ns None = Unit {0}
IsOnWay ns (Some w) = (w.at.0 < length ns) × Covers (prefix_at ns w.at.0) w.to

-- the node is the one that comes closest to the prefix; none where there is no node
abbrev pub IsNear : List Node → Prefix → Option Way → Type 0
IsNear ns p None = length ns ≡ 0
IsNear ns p (Some w) = IsClosest ns p w.at.0
