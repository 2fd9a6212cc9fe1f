-- How many messages go in each direction. No public contract cites this file.
use Rattle.std.specs.Prelude.{ℕ, List, unwrap_or}
use Rattle.std.specs.Map.{lookup}
use Rattle.std.specs.BTreeMap.{is_at}
use Rattle.net_prefix.specs.declared.addr.Addr.{Addr}
use Rattle.session_queue.specs.declared.direction.Direction.{Direction}
use Rattle.session_queue.specs.Waiting.{direction_cmp}

-- none where the direction was not counted
abbrev pub count_at : List (Direction × ℕ) → Addr → Addr → ℕ
count_at counts f t = unwrap_or (lookup (is_at (direction_cmp (record { from = f; to = t }))) counts) 0
