-- What becomes of who stands at an address at an edit, and of the cells there. No public contract cites this file.
use Rattle.std.specs.Prelude.{◌≡◌, ℕ, Bool, true, false, ◌∷◌, [], List, map, filter, Option, Some, None}
use Rattle.std.specs.List.{AllByRecursion, flat_map}
use Rattle.std.specs.FinMap as finite
use Rattle.net_prefix.specs.declared.addr.Addr.{Addr}
use Rattle.net_prefix.specs.Prefix.{Prefix}
use Rattle.net_conf.specs.Configuration.{Configuration}
use Rattle.net_conf.specs.declared.site.SiteConf.{SiteConf}
use Rattle.net_conf.specs.RouterSites.{router_site}
use Rattle.prefix_table.specs.Tables.{Table}
use Rattle.cell_engine.specs.RouterTables.{table_at}
use Rattle.cell_engine.specs.Cells.{Cell}
use Rattle.cell_engine.specs.SiteMoves.{SitePair, moves_cost_to}
use Rattle.cell_engine.specs.Recosting.{recost}
use Rattle.cell_engine.specs.declared.hop_table.hops.Hops.{Hops}
use Rattle.cell_engine.specs.declared.hop_table.hops.Hops.TheVariants.{Nothing, Only, Several}
use Rattle.cell_engine.specs.Moves.{moves}
use Rattle.cell_engine.specs.Changes.{Change, cell_change, router_changes}
use Rattle.cell_engine.specs.CellEdits.{CellEdit}

-- who stands at an address, where the configuration becomes another
pub record Becoming : Type 0 where
  pub before : Configuration
  pub after : Configuration
  pub address : Addr

-- they are edits of this configuration
abbrev pub AreOf : Configuration → List Becoming → Type 0
AreOf c bs = AllByRecursion (λ b. b.before ≡ c) bs

-- where a router stands before and after
abbrev pub pair_of : Option SiteConf → Option SiteConf → Option SitePair
pair_of (Some old) (Some new) = Some (record { old = old; new = new })
pair_of _ _ = None

-- its parts of the configurations
abbrev pub sites_of : Becoming → Option SitePair
sites_of b = pair_of (router_site b.before b.address) (router_site b.after b.address)

-- the cell can change
abbrev pub can_change : Becoming → Prefix → Cell → Bool
can_change b p h = moves b.before b.after b.address p h

-- one cell
abbrev pub change_of : Becoming → Prefix → Cell → Change
change_of b p h = cell_change b.before b.after b.address p h

-- all its cells that can change
abbrev pub becoming_changes : List (Addr × Table Cell) → Becoming → List Change
becoming_changes ts b = router_changes (moves b.before b.after) b.before b.after b.address
    (finite.entries (table_at b.address ts))

-- those of all of these
abbrev pub all_changes : List Becoming → List (Addr × Table Cell) → List Change
all_changes bs ts = flat_map (becoming_changes ts) bs

-- a cell that can change, and what becomes of who keeps it
pub record MovedCell : Type 0 where
  pub becoming : Becoming
  pub prefix : Prefix
  pub cell : Cell

-- what comes of it
abbrev pub change_at : MovedCell → Change
change_at x = change_of x.becoming x.prefix x.cell

-- those of these that can change
abbrev pub moved_cells : Becoming → List (Prefix × Cell) → List MovedCell
moved_cells b cells = map (λ e. record { becoming = b; prefix = e.0; cell = e.1 })
    (filter (λ e. can_change b e.0 e.1) cells)

-- this one, if it can
abbrev pub moved_cell : Becoming → Prefix → Cell → List MovedCell
moved_cell b p h = moved_cells b ((p, h) ∷ [])

-- the cost which is all that becomes of the router's cell. None elsewhere
abbrev pub recost_in : Option SitePair → Prefix → Cell → Option ℕ
recost_in None p h = None
recost_in (Some s) p h = recost s p h.received

-- the cost to one of these NEXT_HOPs can become another
abbrev pub moves_one_of : SitePair → Hops → Bool
moves_one_of s Nothing = false
moves_one_of s (Only a) = moves_cost_to s a
moves_one_of s Several = true

abbrev pub edit_by : Option ℕ → Becoming → Prefix → Cell → CellEdit
edit_by None b p h = record { router = b.address; prefix = p; remade = Some (change_of b p h).outcome; cost = 0 }
edit_by (Some k) b p h = record { router = b.address; prefix = p; remade = None; cost = k }

-- what is done to one cell
abbrev pub edit_at : MovedCell → CellEdit
edit_at x = edit_by (recost_in (sites_of x.becoming) x.prefix x.cell) x.becoming x.prefix x.cell

-- of all of these, in order, then by prefix
abbrev pub all_moved : List Becoming → List (Addr × Table Cell) → List MovedCell
all_moved bs ts = flat_map (λ b. moved_cells b (finite.entries (table_at b.address ts))) bs
