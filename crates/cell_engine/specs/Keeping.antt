-- What is left of the tables when the configuration becomes another: the routes over sessions that are up, decided
-- anew.
use Rattle.std.specs.Prelude.{List, map, filter}
use Rattle.std.specs.FinMap as finite
use Rattle.net_prefix.specs.declared.addr.Addr.{Addr}
use Rattle.net_prefix.specs.Prefix.{Prefix}
use Rattle.path_attr.specs.declared.attr.Attr.{Attr}
use Rattle.net_conf.specs.Configuration.{Configuration}
use Rattle.net_conf.specs.Costs.{is_up}
use Rattle.prefix_table.specs.Tables.{Table}
use Rattle.cell_engine.specs.Cells.{Cell, decided}
use Rattle.net_conf.specs.RouterSites.{router_site}

-- of the router's routes those that came over sessions that are up (RFC 4271, 6 and 8)
abbrev pub kept_from : Configuration → Addr → List (Addr × Attr) → List (Addr × Attr)
kept_from c r routes = filter (λ e. is_up c e.0 r) routes

-- the router's cell for the prefix
abbrev pub kept_cell : Configuration → Addr → Prefix → Cell → Cell
kept_cell c r p h = decided (router_site c r) p (kept_from c r h.received)

abbrev pub kept_cells : Configuration → Addr → List (Prefix × Cell) → List (Prefix × Cell)
kept_cells c r cells = map (λ e. (e.0, kept_cell c r e.0 e.1)) cells

abbrev pub kept_table : Configuration → Addr → Table Cell → Table Cell
kept_table c r t = finite.from_sorted (kept_cells c r (finite.entries t))

-- each table with each of its cells decided anew
abbrev pub kept_tables : Configuration → List (Addr × Table Cell) → List (Addr × Table Cell)
kept_tables c ts = map (λ t. (t.0, kept_table c t.0 t.1)) ts
