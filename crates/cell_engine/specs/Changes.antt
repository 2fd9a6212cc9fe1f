-- What an edit changes of an engine's tables, cell by cell, and what is sent for that.
use Rattle.std.specs.Prelude.{◌≡◌, Bool, List, [], ◌∷◌, map, filter, option_map}
use Rattle.std.specs.Option.{option_to_list}
use Rattle.std.specs.List.{flat_map}
use Rattle.std.specs.FinMap as finite
use Rattle.net_prefix.specs.declared.addr.Addr.{Addr}
use Rattle.net_prefix.specs.Prefix.{Prefix}
use Rattle.session_queue.specs.declared.message.Message.{Message}
use Rattle.net_conf.specs.Configuration.{Configuration}
use Rattle.net_conf.specs.declared.edit.Scope.{Scope}
use Rattle.net_conf.specs.declared.edit.Scope.TheVariants.{Network, Site, Route}
use Rattle.prefix_table.specs.Tables.{Table}
use Rattle.cell_engine.specs.RouterTables.{table_at, value_at, with_value}
use Rattle.cell_engine.specs.Cells.{Cell, Outcome}
use Rattle.cell_engine.specs.State.{cell_at}
use Rattle.cell_engine.specs.Keeping.{kept_from, kept_cell}
use Rattle.cell_engine.specs.Editing.{cell_sends}
use Rattle.cell_engine.specs.Moves.{moves}

-- a cell that is decided anew: its router and prefix, and what comes of it
pub record Change : Type 0 where
  pub router : Addr
  pub prefix : Prefix
  pub outcome : Outcome

-- the router's cell, when the configuration c becomes d
abbrev pub cell_change : Configuration → Configuration → Addr → Prefix → Cell → Change
cell_change c d r p h = record {
  router = r;
  prefix = p;
  outcome = record { cell = kept_cell d r p h; sends = cell_sends c d r p h };
}

-- a cell is decided anew, or not
abbrev pub Choice : Type 0
Choice = Addr → Prefix → Cell → Bool

-- the router's cells that are, in order of prefix
abbrev pub router_changes : Choice → Configuration → Configuration → Addr → List (Prefix × Cell) → List Change
router_changes holds c d r cells = map (λ e. cell_change c d r e.0 e.1) (filter (λ e. holds r e.0 e.1) cells)

-- those that an edit of this scope can change, in order of router, then prefix
abbrev pub changes_where : Choice → Scope → Configuration → Configuration → List (Addr × Table Cell) → List Change
changes_where holds Network c d ts = flat_map (λ t. router_changes holds c d t.0 (finite.entries t.1)) ts
changes_where holds (Site a) c d ts = router_changes holds c d a (finite.entries (table_at a ts))
changes_where holds (Route a p) c d ts =
    router_changes holds c d a (option_to_list (option_map (λ h. (p, h)) (value_at a p ts)))

-- of these the ones that it changes
abbrev pub changes_in : Scope → Configuration → Configuration → List (Addr × Table Cell) → List Change
changes_in s c d ts = changes_where (moves c d) s c d ts

-- the tables, with each changed cell in its place
abbrev pub with_changes : List Change → List (Addr × Table Cell) → List (Addr × Table Cell)
with_changes [] ts = ts
with_changes (x ∷ xs) ts = with_changes xs (with_value x.router x.prefix x.outcome.cell ts)

-- what the routers send for the changes
abbrev pub sends_for : List Change → List (Addr × List (Addr × Message))
sends_for xs = map (λ x. (x.router, x.outcome.sends)) xs

-- all routes in the tables came over sessions that are up
abbrev pub AreOverSessionsUp : Configuration → List (Addr × Table Cell) → Type 0
AreOverSessionsUp c ts = (r : Addr) (p : Prefix) → kept_from c r (cell_at r p ts).received ≡ (cell_at r p ts).received
