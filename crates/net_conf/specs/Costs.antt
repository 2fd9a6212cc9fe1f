-- Interior costs, and which sessions are up.
use Rattle.std.specs.Prelude.{ℕ, Bool, false, not, ◌&&◌, List, map, filter, Option, Some, None, option_map, is_some, if◌then◌else◌}
use Rattle.std.specs.Option.{unwrap_or}
use Rattle.std.specs.List.{filter_map}
use Rattle.std.specs.Map.{keys_of}
use Rattle.net_prefix.specs.declared.addr.Addr.{Addr}
use Rattle.igp_cost.specs.Trees.{Reached, cost_in, tree_of}
use Rattle.net_conf.specs.declared.tables.Ends.{Ends}
use Rattle.net_conf.specs.declared.tables.Link.{Link}
use Rattle.net_conf.specs.Configuration.{Configuration, is_external, has_link_up, session_between}

-- routers and peers, each with its AS
abbrev pub nodes_of : Configuration → List (Addr × ℕ)
nodes_of c = map (λ e. (e.0, e.1.asn)) c.nodes

abbrev pub edge_of : Ends × Link → Option (Addr × Addr × ℕ)
edge_of e = if e.1.up then Some (e.0.low, e.0.high, e.1.metric) else None

-- the links that are up, each with its metric
abbrev pub edges_of : Configuration → List (Addr × Addr × ℕ)
edges_of c = filter_map edge_of c.links

-- the interior costs and first hops of the router: those of least walks over links that are up, on which every router
-- but the last is in its AS (own; RFC 4271, 9.1.2.1, leaves interior routing open)
abbrev pub costs_of : Configuration → Addr → Reached
costs_of c r = tree_of (nodes_of c) (edges_of c) r

-- the cost from the router to an address, where it has one
abbrev pub cost : Configuration → Addr → Addr → Option ℕ
cost c r x = cost_in (costs_of c r) x

-- an external session needs its link, an internal one a cost from each router to the other (own)
abbrev pub is_connected : Configuration → Addr → Addr → Bool
is_connected c a b = if is_external c a b then has_link_up c a b else is_some (cost c a b) && is_some (cost c b a)

-- whether the session is up, where there is one: it is enabled, and connected (own; RFC 4271, 8, has a session stand on
-- its TCP connection)
unfoldable pub session_up : Configuration → Addr → Addr → Option Bool
session_up c a b = option_map (λ enabled. enabled && is_connected c a b) (session_between c a b)

abbrev pub is_up : Configuration → Addr → Addr → Bool
is_up c a b = unwrap_or (session_up c a b) false

-- the sessions that are not up, in order
abbrev pub down_sessions : Configuration → List Ends
down_sessions c = filter (λ e. not (is_up c e.low e.high)) (keys_of c.sessions)
