-- Cells of which an edit changes the cost of one route, and nothing else: no path attribute holds it (RFC 4271, 5 and
-- 9.1.2.2 e).
use Rattle.std.specs.Prelude.{ℕ, Bool, not, ◌&&◌, ◌||◌, List, [], ◌∷◌, Option, None, is_some, if◌then◌else◌}
use Rattle.net_prefix.specs.declared.addr.Addr.{Addr}
use Rattle.net_prefix.specs.Prefix.{Prefix}
use Rattle.path_attr.specs.declared.attr.Attr.{Attr}
use Rattle.igp_cost.specs.Trees.{cost_in}
use Rattle.net_conf.specs.Facts.{same_facts}
use Rattle.reference_machine.specs.Decision.{is_originated}
use Rattle.route_select.specs.AtCost.{at_cost}
use Rattle.cell_engine.specs.Cells.{Cell}
use Rattle.cell_engine.specs.SiteMoves.{SitePair}

-- the cell, with its route, where it is the only one, at this cost
abbrev pub recosted : ℕ → Cell → Cell
recosted k h = record { received = h.received; standings = at_cost k h.standings }

-- the cost to the NEXT_HOP of a lone route after the edit, where it has one before and after
abbrev pub lone_cost : SitePair → List (Addr × Attr) → Option ℕ
lone_cost s (e ∷ []) = if is_some (cost_in s.old.costs e.1.next) then cost_in s.new.costs e.1.next else None
lone_cost s _ = None

-- the router originates the prefix, before or after
abbrev pub is_own : SitePair → Prefix → Bool
is_own s p = is_originated s.old p || is_originated s.new p

-- the cost that its one route has after the edit, where a cell that the edit changes changes in that alone: its
-- settings and sessions stay, and the router does not originate the prefix. None elsewhere
abbrev pub recost : SitePair → Prefix → List (Addr × Attr) → Option ℕ
recost s p routes = if same_facts s.old s.new && not (is_own s p) then lone_cost s routes else None
