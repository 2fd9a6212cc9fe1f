-- What an edit does to a cell, as it is planned beside the tables: another takes its place, or its one route has
-- another cost.
use Rattle.std.specs.Prelude.{◌≡◌, ℕ, true, List, [], ◌∷◌, map, Option, is_some}
use Rattle.std.specs.List.{AllByRecursion}
use Rattle.std.specs.Option.{option_map_or, unwrap_or}
use Rattle.net_prefix.specs.declared.addr.Addr.{Addr}
use Rattle.net_prefix.specs.Prefix.{Prefix}
use Rattle.session_queue.specs.declared.message.Message.{Message}
use Rattle.prefix_table.specs.Tables.{Table}
use Rattle.cell_engine.specs.RouterTables.{value_at, with_value}
use Rattle.cell_engine.specs.Cells.{Cell, Outcome}
use Rattle.cell_engine.specs.Recosting.{recosted}
use Rattle.cell_engine.specs.State.{cell_at}
use Rattle.cell_engine.specs.Changes.{Change}

-- remade: the cell that takes the place, and what is sent for that; where there is none, cost: that of the one route
pub record CellEdit : Type 0 where
  pub router : Addr
  pub prefix : Prefix
  pub remade : Option Outcome
  pub cost : ℕ

-- what comes of the cell
abbrev pub outcome_of : CellEdit → Cell → Outcome
outcome_of x h = unwrap_or x.remade (record { cell = recosted x.cost h; sends = [] })

-- what is sent for it
abbrev pub edit_sends : CellEdit → List (Addr × Message)
edit_sends x = option_map_or (λ o. o.sends) x.remade []

-- what the routers send
abbrev pub edits_send : List CellEdit → List (Addr × List (Addr × Message))
edits_send xs = map (λ x. (x.router, edit_sends x)) xs

-- what comes of the cell in these tables
abbrev pub whole_change : List (Addr × Table Cell) → CellEdit → Change
whole_change ts x = record {
  router = x.router;
  prefix = x.prefix;
  outcome = outcome_of x (cell_at x.router x.prefix ts);
}

-- what comes of all of these cells
abbrev pub whole_changes : List (Addr × Table Cell) → List CellEdit → List Change
whole_changes ts xs = map (whole_change ts) xs

-- there is a cell for each
abbrev pub AreEditsThere : List CellEdit → List (Addr × Table Cell) → Type 0
AreEditsThere xs ts = AllByRecursion (λ x. is_some (value_at x.router x.prefix ts) ≡ true) xs

-- the tables, with one cell edited
abbrev pub with_edit : CellEdit → List (Addr × Table Cell) → List (Addr × Table Cell)
with_edit x ts = with_value x.router x.prefix (outcome_of x (cell_at x.router x.prefix ts)).cell ts

-- with each of these edited, one after another
abbrev pub with_edits : List CellEdit → List (Addr × Table Cell) → List (Addr × Table Cell)
with_edits [] ts = ts
with_edits (x ∷ xs) ts = with_edits xs (with_edit x ts)
