-- What is configured: tables, each in the order of its keys.
use Rattle.std.specs.Prelude.{ℕ, Bool, true, false, not, ◌==◌, ◌||◌, nat_le, List, [], map, filter, length, Option, option_map, is_some, if◌then◌else◌}
use Rattle.std.specs.Option.{unwrap_or}
use Rattle.std.specs.Map.{lookup}
use Rattle.std.specs.BTreeMap.{is_at}
use Rattle.std.specs.List.{list_any}
use Rattle.std.specs.declared.cmp.Ordering.{Ordering}
use Rattle.std.specs.Ordering.{ordering_then}
use Rattle.net_prefix.specs.declared.addr.Addr.{Addr}
use Rattle.net_prefix.specs.Address.{addr_cmp}
use Rattle.net_prefix.specs.Prefix.{Prefix, prefix_cmp}
use Rattle.path_attr.specs.Number.{same_number}
use Rattle.route_policy.specs.declared.rule.Rule.{Rule}
use Rattle.net_conf.specs.declared.tables.Node.{Node}
use Rattle.net_conf.specs.declared.tables.Kind.{Kind}
use Rattle.net_conf.specs.declared.tables.Kind.TheVariants.{Router, Virtual}
use Rattle.net_conf.specs.declared.tables.Ends.{Ends}
use Rattle.net_conf.specs.declared.tables.Link.{Link}
use Rattle.net_conf.specs.declared.tables.End.{End}
use Rattle.net_conf.specs.declared.tables.Origination.{Origination}

-- routers and virtual peers by address: a router's address is its BGP Identifier, that of its sessions and its own
-- NEXT_HOP (own), and a virtual peer is an external neighbour that decides nothing (own); links, and whether each
-- session is enabled, by their ends, so one of each for two addresses (own); the settings of the ends of sessions:
-- which peers are clients, where a router puts itself as NEXT_HOP, and both policies; the CLUSTER_IDs that were set;
-- the routers that compare MULTI_EXIT_DISC whatever the neighbouring AS; and who originates what
pub record Configuration : Type 0 where
  pub nodes : List (Addr × Node)
  pub links : List (Ends × Link)
  pub sessions : List (Ends × Bool)
  pub clients : List End
  pub own_next : List End
  pub imports : List (End × List Rule)
  pub exports : List (End × List Rule)
  pub clusters : List (Addr × Addr)
  pub med_always : List Addr
  pub origins : List Origination

abbrev pub unconfigured : Configuration
unconfigured = record {
  nodes = [];
  links = [];
  sessions = [];
  clients = [];
  own_next = [];
  imports = [];
  exports = [];
  clusters = [];
  med_always = [];
  origins = [];
}

-- the two ends of a link or a session, the lower first: the same in both orders
abbrev pub ends_of : Addr → Addr → Ends
ends_of a b = if nat_le a.0 b.0 then record { low = a; high = b } else record { low = b; high = a }

-- by the lower end, then by the higher
abbrev pub ends_cmp : Ends → Ends → Ordering
ends_cmp x y = ordering_then (addr_cmp x.low y.low) (addr_cmp x.high y.high)

-- the router's end of its session with the peer
abbrev pub end_of : Addr → Addr → End
end_of r u = record { router = r; peer = u }

-- by router, then by peer
abbrev pub end_cmp : End → End → Ordering
end_cmp x y = ordering_then (addr_cmp x.router y.router) (addr_cmp x.peer y.peer)

-- by router, then by prefix
abbrev pub origination_cmp : Origination → Origination → Ordering
origination_cmp x y = ordering_then (addr_cmp x.router y.router) (prefix_cmp x.prefix y.prefix)

-- NODES

-- the router or virtual peer at the address
abbrev pub node_at : Configuration → Addr → Option Node
node_at c a = lookup (is_at (addr_cmp a)) c.nodes

abbrev pub has_node : Configuration → Addr → Bool
has_node c a = is_some (node_at c a)

abbrev pub is_kind_virtual : Kind → Bool
is_kind_virtual Router = false
is_kind_virtual Virtual = true

-- a virtual peer stands at the address
abbrev pub is_virtual : Configuration → Addr → Bool
is_virtual c a = unwrap_or (option_map (λ n. is_kind_virtual n.kind) (node_at c a)) false

-- the AS of the router or peer, where there is one
abbrev pub as_of : Configuration → Addr → Option ℕ
as_of c a = option_map (λ n. n.asn) (node_at c a)

-- the two are in different ASes, and so is a session of theirs external (RFC 4271, 1.1)
abbrev pub is_external : Configuration → Addr → Addr → Bool
is_external c a b = not (same_number (as_of c a) (as_of c b))

-- LINKS AND SESSIONS

-- the link of the two, where they have one
abbrev pub link_between : Configuration → Addr → Addr → Option Link
link_between c a b = lookup (is_at (ends_cmp (ends_of a b))) c.links

abbrev pub has_link : Configuration → Addr → Addr → Bool
has_link c a b = is_some (link_between c a b)

-- the two have a link, and it is up
abbrev pub has_link_up : Configuration → Addr → Addr → Bool
has_link_up c a b = unwrap_or (option_map (λ l. l.up) (link_between c a b)) false

-- whether the session of the two is enabled, where they have one
abbrev pub session_between : Configuration → Addr → Addr → Option Bool
session_between c a b = lookup (is_at (ends_cmp (ends_of a b))) c.sessions

abbrev pub has_session : Configuration → Addr → Addr → Bool
has_session c a b = is_some (session_between c a b)

-- the address is one of the ends
abbrev pub is_end : Addr → Ends → Bool
is_end a e = e.low.0 == a.0 || e.high.0 == a.0

-- the address is an end of a session
abbrev pub ends_session : Configuration → Addr → Bool
ends_session c a = list_any (λ e. is_end a e.0) c.sessions

-- how many sessions the address has
abbrev pub session_count : Configuration → Addr → ℕ
session_count c a = length (filter (λ e. is_end a e.0) c.sessions)

-- SETTINGS

-- the router takes the peer for its client (RFC 4456, 6)
abbrev pub is_client : Configuration → Addr → Addr → Bool
is_client c r u = list_any (is_at (end_cmp (end_of r u))) c.clients

-- the router is a route reflector: it takes a peer for its client (RFC 4456, 6), be that session up or down (own)
abbrev pub is_reflector : Configuration → Addr → Bool
is_reflector c r = list_any (λ e. e.router.0 == r.0) c.clients

-- the router's CLUSTER_ID: its address, unless another was set (own; RFC 4456, 7, has the BGP Identifier of a cluster's
-- only reflector)
abbrev pub cluster_id : Configuration → Addr → Addr
cluster_id c r = unwrap_or (lookup (is_at (addr_cmp r)) c.clusters) r

-- the router compares MULTI_EXIT_DISC of all routes, whatever the neighbouring AS: no router does unless it was set
-- (own); RFC 4271, 9.1.2.2 c), compares it among the routes of one neighbouring AS
abbrev pub compares_all_meds : Configuration → Addr → Bool
compares_all_meds c r = list_any (is_at (addr_cmp r)) c.med_always

-- the router puts itself as NEXT_HOP towards the peer (RFC 4271, 5.1.3)
abbrev pub puts_itself : Configuration → Addr → Addr → Bool
puts_itself c r u = list_any (is_at (end_cmp (end_of r u))) c.own_next

-- the rules of the end, none where none was added
abbrev pub rules_at : List (End × List Rule) → End → List Rule
rules_at policies e = unwrap_or (lookup (is_at (end_cmp e)) policies) []

-- the rules for what comes in from the peer, and for what goes out to it (RFC 4271, 9.1.1 and 9.1.3)
abbrev pub import_rules : Configuration → Addr → Addr → List Rule
import_rules c r u = rules_at c.imports (end_of r u)

abbrev pub export_rules : Configuration → Addr → Addr → List Rule
export_rules c r u = rules_at c.exports (end_of r u)

-- ORIGINS

-- whether the router originates the prefix
abbrev pub originates : Configuration → Addr → Prefix → Bool
originates c r p = list_any (is_at (origination_cmp (record { router = r; prefix = p }))) c.origins

-- the prefixes that the router originates, in order
abbrev pub origins_of : Configuration → Addr → List Prefix
origins_of c r = map (λ o. o.prefix) (filter (λ o. o.router.0 == r.0) c.origins)
