-- What each report reads off an engine: cell by cell of one router's table, in order of prefix.
use Rattle.std.specs.Prelude.{◌≡◌, ℕ, ◌≤◌, Bool, true, false, List, [], ◌∷◌, map, filter, Option, option_map, is_some, if◌then◌else◌}
use Rattle.std.specs.List.{filter_map}
use Rattle.std.specs.FinMap as finite
use Rattle.net_prefix.specs.declared.addr.Addr.{Addr}
use Rattle.net_prefix.specs.Prefix.{Prefix, MakePrefix, Contains}
use Rattle.path_attr.specs.declared.attr.Attr.{Attr}
use Rattle.session_queue.specs.declared.direction.Direction.{Direction}
use Rattle.session_queue.specs.declared.message.Message.{Message}
use Rattle.session_queue.specs.Waiting.{Queues, queue_at}
use Rattle.net_conf.specs.Configuration.{Configuration}
use Rattle.net_conf.specs.Costs.{is_up}
use Rattle.net_conf.specs.Sites.{site_of}
use Rattle.prefix_table.specs.Tables.{Table, is_after}
use Rattle.route_select.specs.declared.candidate.Source.{Source}
use Rattle.route_select.specs.declared.candidate.Source.TheVariants.{Own, Peer as FromPeer}
use Rattle.route_select.specs.declared.candidate.Reason.{Reason}
use Rattle.route_select.specs.Selection.{Standings, best_of, reason_in}
use Rattle.sim_event.specs.declared.reply.Held.{Held}
use Rattle.reference_machine.specs.Advertising.{advert_of}
use Rattle.reference_machine.specs.Reports.{held_of}
use Rattle.cell_engine.specs.RouterTables.{table_at, value_at}
use Rattle.cell_engine.specs.Cells.{Cell, route_of}
use Rattle.cell_engine.specs.Senders.{is_past}
use Rattle.cell_engine.specs.State.{cell_at}

-- CELLS

-- the cells of the router, in order of prefix
abbrev pub cells_of : Addr → List (Addr × Table Cell) → List (Prefix × Cell)
cells_of r ts = finite.entries (table_at r ts)

-- those after this prefix, if one is given: what a walk has still to come to
abbrev pub cells_after : Addr → List (Addr × Table Cell) → Option Prefix → List (Prefix × Cell)
cells_after r ts after = filter (λ e. is_after after e.0) (cells_of r ts)

-- LOC-RIB

-- the route that is chosen in a cell
abbrev pub held_in : Prefix × Cell → Option Held
held_in e = held_of e.0 (best_of e.1.standings)

-- the routes that are chosen in the router's cells (RFC 4271, 3.2)
abbrev pub routes_chosen : Addr → List (Addr × Table Cell) → List Held
routes_chosen r ts = filter_map held_in (cells_of r ts)

-- ADJ-RIB-OUT

-- what the router advertises to the peer of the best route of a cell
abbrev pub advert_in : Configuration → Addr → Addr → Prefix × Cell → Option (Prefix × Attr)
advert_in c r t e = option_map (λ attr. (e.0, attr))
    (advert_of (is_up c r t) (site_of c r) t e.0 (best_of e.1.standings))

-- what it advertises to the peer of all its cells (RFC 4271, 3.2)
abbrev pub adverts_to : Configuration → Addr → Addr → List (Addr × Table Cell) → List (Prefix × Attr)
adverts_to c r t ts = filter_map (advert_in c r t) (cells_of r ts)

-- ADJ-RIB-IN

-- the route from the peer in a cell
abbrev pub route_in : Addr → Prefix × Cell → Option (Prefix × Attr)
route_in u e = option_map (λ attr. (e.0, attr)) (route_of e.1.received u)

-- the routes from the peer in the router's cells, while their session is up (RFC 4271, 3.2)
abbrev pub received_from : Configuration → Addr → Addr → List (Addr × Table Cell) → List (Prefix × Attr)
received_from c r u ts = if is_up c r u then filter_map (route_in u) (cells_of r ts) else []

-- REASONS

-- who may have a route in a cell, in order of source: the router itself, and those from whom it has received one
abbrev pub sources_in : Cell → List Source
sources_in h = Own ∷ map (λ e. FromPeer e.0) h.received

-- the routes of the senders past this one, if one is given: what a walk has still to come to
abbrev pub received_past : List (Addr × Attr) → Option Addr → List (Addr × Attr)
received_past routes past = filter (λ e. is_past past e.0) routes

-- the source, and why its route was chosen or dropped, where it has one
abbrev pub reason_at : Standings → Source → Option (Source × Reason)
reason_at standings source = option_map (λ reason. (source, reason)) (reason_in standings source)

-- why the routes of a cell were chosen or dropped
abbrev pub reasons_in : Cell → List (Source × Reason)
reasons_in h = filter_map (reason_at h.standings) (sources_in h)

-- QUEUES

-- the messages on their way in the direction; none while the session is down
abbrev pub queue_in : Configuration → Queues → Direction → List Message
queue_in c q d = if is_up c d.from d.to then queue_at q d.from d.to else []

-- THE LONGEST MATCH

-- a route is chosen in a cell
abbrev pub has_choice : Cell → Bool
has_choice h = is_some (best_of h.standings)

-- whatever a router has a cell for is a prefix: no host bit is set, and its length is 32 at most
abbrev pub AreOfPrefixes : List (Addr × Table Cell) → Type 0
AreOfPrefixes ts = (r : Addr) (p : Prefix) → is_some (value_at r p ts) ≡ true → MakePrefix p.addr p.len

-- the router has chosen no route for a prefix of this length, or a longer one, that contains the address
abbrev pub NoneIsChosenFrom : ℕ → Addr → Addr → List (Addr × Table Cell) → Type 0
NoneIsChosenFrom len r d ts = (p : Prefix) → len ≤ p.len → Contains p d → has_choice (cell_at r p ts) ≡ false
