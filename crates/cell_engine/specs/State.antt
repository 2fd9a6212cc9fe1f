-- What the engine keeps, as plain data, and the network that this is. Empty cells, spare places and what is admitted
-- are seen by nothing.
use Rattle.std.specs.Prelude.{◌≡◌, Bool, true, false, ◌&&◌, List, [], map, is_some, unwrap_or, IsTrue}
use Rattle.std.specs.List.{flat_map, list_any, AllByRecursion}
use Rattle.std.specs.List.Sorted.{IsStrictlySortedBy}
use Rattle.std.specs.Map.{keys_of}
use Rattle.std.specs.FinMap as finite
use Rattle.std.specs.FinMap.Entries.{is_sorted}
use Rattle.net_prefix.specs.declared.addr.Addr.{Addr}
use Rattle.net_prefix.specs.Address.{same_addr, addr_cmp}
use Rattle.net_prefix.specs.Prefix.{Prefix}
use Rattle.path_attr.specs.declared.attr.Attr.{Attr}
use Rattle.session_queue.specs.declared.direction.Direction.{Direction}
use Rattle.session_queue.specs.Waiting.{Queues, direction_cmp, queue_at}
use Rattle.net_conf.specs.Configuration.{Configuration, has_session, originates}
use Rattle.net_conf.specs.RouterSites.{router_site}
use Rattle.prefix_table.specs.Tables.{Table}
use Rattle.reference_machine.specs.declared.rows.RouteKey.{RouteKey}
use Rattle.reference_machine.specs.declared.rows.Queue.{Queue}
use Rattle.reference_machine.specs.Network.{Network}
use Rattle.cell_engine.specs.RouterTables.{value_at}
use Rattle.cell_engine.specs.Cells.{Cell, new_cell, decided}

-- conf: what is configured; tables: for each address that has one, its cells by prefix; directions: those of all
-- sessions, by sender, then receiver; queues: the messages of each direction, and its spare places, and the attributes
-- that may be sent
pub record State : Type 0 where
  pub conf : Configuration
  pub tables : List (Addr × Table Cell)
  pub directions : List Direction
  pub queues : Queues

-- TABLES

-- what the router has heard of the prefix: nothing where it has no cell
abbrev pub cell_at : Addr → Prefix → List (Addr × Table Cell) → Cell
cell_at r p ts = unwrap_or (value_at r p ts) new_cell

-- THE NETWORK

abbrev pub entry_of : Addr → Prefix → Addr × Attr → RouteKey × Attr
entry_of r p e = (record { to = r; prefix = p; from = e.0 }, e.1)

abbrev pub cell_entries : Addr → Prefix → Cell → List (RouteKey × Attr)
cell_entries r p h = map (entry_of r p) h.received

abbrev pub list_entries : Addr → List (Prefix × Cell) → List (RouteKey × Attr)
list_entries r cells = flat_map (λ e. cell_entries r e.0 e.1) cells

abbrev pub table_entries : Addr → Table Cell → List (RouteKey × Attr)
table_entries r t = list_entries r (finite.entries t)

-- the Adj-RIBs-In of all routers: table by table, cell by cell, sender by sender
abbrev pub all_entries : List (Addr × Table Cell) → List (RouteKey × Attr)
all_entries ts = flat_map (λ t. table_entries t.0 t.1) ts

abbrev pub queue_of : Queues → Direction → Queue
queue_of q d = record { of = d; messages = queue_at q d.from d.to }

-- the network that the engine keeps
unfoldable pub network : State → Network
network e = record { conf = e.conf; received = all_entries e.tables; queues = map (queue_of e.queues) e.directions }

-- WHAT HOLDS OF IT

-- the routes in the cell are by sender, and were decided by the router's site
pub record IsCell (c : Configuration) (r : Addr) (p : Prefix) (h : Cell) : Type 0 where
  pub by_sender : IsStrictlySortedBy addr_cmp (keys_of h.received)
  pub decided : h ≡ decided (router_site c r) p h.received

abbrev pub IsTable : Configuration → Addr × Table Cell → Type 0
IsTable c t = AllByRecursion (λ e. IsCell c t.0 e.0 e.1) (finite.entries t.1)

abbrev pub is_direction : Direction → Direction → Bool
is_direction d e = same_addr d.from e.from && same_addr d.to e.to

pub record IsConsistent (e : State) : Type 0 where
  -- one table an address, by address
  pub by_address : IsTrue (is_sorted addr_cmp e.tables)
  -- each cell was decided by the site of its router
  pub cells : AllByRecursion (IsTable e.conf) e.tables
  -- a router has a cell for each prefix that it originates
  pub origins : (r : Addr) (p : Prefix) → originates e.conf r p ≡ true → is_some (value_at r p e.tables) ≡ true
  -- the directions are those of the sessions, by sender, then receiver
  pub in_order : IsStrictlySortedBy direction_cmp e.directions
  pub sessions : (d : Direction) → list_any (is_direction d) e.directions ≡ has_session e.conf d.from d.to
  -- where there is no session, no message is on its way
  pub silent : (from to : Addr) → has_session e.conf from to ≡ false → queue_at e.queues from to ≡ []
