-- What an edit makes of an engine, and what its routers send for that.
use Rattle.std.specs.Prelude.{List, [], map, Option, Some, None, is_some, unwrap_or, if◌then◌else◌}
use Rattle.std.specs.List.{flat_map}
use Rattle.std.specs.BTreeSet.{insert_key}
use Rattle.std.specs.FinMap as finite
use Rattle.net_prefix.specs.declared.addr.Addr.{Addr}
use Rattle.net_prefix.specs.Prefix.{Prefix}
use Rattle.session_queue.specs.declared.message.Message.{Message}
use Rattle.session_queue.specs.declared.direction.Direction.{Direction}
use Rattle.session_queue.specs.Waiting.{Queues, direction_cmp, queue_at}
use Rattle.net_conf.specs.Configuration.{Configuration}
use Rattle.net_conf.specs.Costs.{is_up}
use Rattle.net_conf.specs.Edits.{edited}
use Rattle.net_conf.specs.RouterSites.{router_site}
use Rattle.net_conf.specs.declared.edit.Edit.{Edit}
use Rattle.net_conf.specs.declared.edit.Edit.TheVariants.{Join, Origin}
use Rattle.net_conf.specs.declared.site.SiteConf.{SiteConf}
use Rattle.prefix_table.specs.Tables.{Table}
use Rattle.cell_engine.specs.RouterTables.{value_at, with_value}
use Rattle.cell_engine.specs.Cells.{Cell, new_cell, refreshed}
use Rattle.cell_engine.specs.State.{State}
use Rattle.cell_engine.specs.Keeping.{kept_tables}
use Rattle.cell_engine.specs.Sending.{told_from}

-- a new session has a direction each way
abbrev pub with_directions : Edit → List Direction → List Direction
with_directions (Join a b) ds = insert_key direction_cmp (insert_key direction_cmp ds (record { from = b; to = a }))
    (record { from = a; to = b })
with_directions _ ds = ds

-- the router has a cell of the prefix: an empty one, where it had none
abbrev pub with_cell : Addr → Prefix → List (Addr × Table Cell) → List (Addr × Table Cell)
with_cell r p ts = if is_some (value_at r p ts) then ts else with_value r p new_cell ts

-- and so it has of a prefix that it comes to originate
abbrev pub with_origin : Edit → List (Addr × Table Cell) → List (Addr × Table Cell)
with_origin (Origin r p) ts = with_cell r p ts
with_origin _ ts = ts

-- each cell decided anew by what the edit makes of the configuration
abbrev pub edited_tables : Configuration → Edit → List (Addr × Table Cell) → List (Addr × Table Cell)
edited_tables c edit ts = kept_tables c (with_origin edit ts)

-- what is left on its way: over a session that is down nothing (RFC 4271, 6 and 8)
abbrev pub left_at : Configuration → Queues → Addr → Addr → List Message
left_at c q f t = if is_up c f t then queue_at q f t else []

-- WHAT IS SENT

-- for one cell, when the router's site becomes another. A router that is new has no session yet, and its new site
-- stands for the old one too; where there is no router, nothing is sent
abbrev pub sends_between : Option SiteConf → Option SiteConf → Prefix → Cell → List (Addr × Message)
sends_between old None p h = []
sends_between old (Some new) p h = (refreshed (unwrap_or old new) new p h).sends

-- for one cell of the router, when the configuration c becomes d
abbrev pub cell_sends : Configuration → Configuration → Addr → Prefix → Cell → List (Addr × Message)
cell_sends c d r p h = sends_between (router_site c r) (router_site d r) p h

-- for all its cells, in order of prefix
abbrev pub router_sends : Configuration → Configuration → Addr → List (Prefix × Cell) → List (Addr × Message)
router_sends c d r cells = flat_map (λ e. cell_sends c d r e.0 e.1) cells

-- what each router sends
abbrev pub all_sends : Configuration → Configuration → List (Addr × Table Cell) → List (Addr × List (Addr × Message))
all_sends c d ts = map (λ t. (t.0, router_sends c d t.0 (finite.entries t.1))) ts

-- what goes from one to another where the routers send this
abbrev pub told_by_all : List (Addr × List (Addr × Message)) → Addr → Addr → List Message
told_by_all all f t = flat_map (λ e. told_from e.0 e.1 f t) all

-- THE ENGINE

-- the engine after the edit, with these queues
abbrev pub edited_engine : State → Edit → Queues → State
edited_engine e edit queues = record {
  conf = edited e.conf edit;
  tables = edited_tables (edited e.conf edit) edit e.tables;
  directions = with_directions edit e.directions;
  queues = queues;
}
