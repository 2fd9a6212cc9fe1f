-- What a router decides, afresh, from what is configured and received (RFC 4271, 9.1.1 and 9.1.2; RFC 4456, 8 and 9).
use Rattle.std.specs.Prelude.{ℕ, Bool, true, false, ◌&&◌, List, [], ◌∷◌, ◌++◌, fold, Option, Some, None, option_and_then, is_none, if◌then◌else◌}
use Rattle.std.specs.Option.{unwrap_or, option_or}
use Rattle.std.specs.List.{filter_map, list_any}
use Rattle.std.specs.Map.{lookup}
use Rattle.std.specs.BTreeMap.{is_at}
use Rattle.net_prefix.specs.declared.addr.Addr.{Addr}
use Rattle.net_prefix.specs.Address.{same_addr}
use Rattle.net_prefix.specs.Prefix.{Prefix, same_prefix}
use Rattle.path_attr.specs.Path.{holds}
use Rattle.path_attr.specs.declared.attr.Attr.{Attr}
use Rattle.path_attr.specs.Attribute.{plain_attr, same_maybe_addr}
use Rattle.path_attr.specs.Communities.{with_given}
use Rattle.igp_cost.specs.Trees.{cost_in}
use Rattle.route_policy.specs.declared.rule.Action.{Action}
use Rattle.route_policy.specs.declared.rule.Action.TheVariants.{Deny, Permit}
use Rattle.route_policy.specs.Judging.{judged}
use Rattle.net_conf.specs.declared.site.SiteConf.{SiteConf}
use Rattle.net_conf.specs.declared.site.SiteSession.{SiteSession}
use Rattle.net_conf.specs.Sites.{site_of}
use Rattle.route_select.specs.declared.candidate.Source.{Source}
use Rattle.route_select.specs.declared.candidate.Source.TheVariants.{Own, Peer as FromPeer}
use Rattle.route_select.specs.declared.candidate.Candidate.{Candidate}
use Rattle.route_select.specs.declared.candidate.Reason.{Reason}
use Rattle.route_select.specs.declared.candidate.Reason.TheVariants.{Loop, Originator, Cluster, Denied, Unresolved}
use Rattle.route_select.specs.declared.candidate.Standing.{Standing}
use Rattle.route_select.specs.declared.candidate.Standing.TheVariants.{Excluded, Considered}
use Rattle.route_select.specs.Selection.{Standings, no_standings, with_standing, best_of}
use Rattle.reference_machine.specs.declared.rows.RouteKey.{RouteKey}
use Rattle.reference_machine.specs.Network.{Network, route_cmp}

-- the preference of a route for which nothing sets one (own)
abbrev pub default_preference : ℕ
default_preference = 100

-- THE ROUTER'S OWN ROUTE

-- an empty path, ORIGIN IGP and the router as NEXT_HOP (RFC 4271, 5.1.1 to 5.1.3), with the default preference and no
-- communities (own)
abbrev pub own_attr : Addr → Attr
own_attr r = record (plain_attr r) { pref = Some default_preference }

-- it counts with the external ones, its cost is 0, and its identifier is the router's (own)
abbrev pub own_candidate : Addr → Candidate
own_candidate r = record {
  source = Own;
  attr = own_attr r;
  pref = default_preference;
  external = true;
  cost = 0;
  ident = r;
}

abbrev pub is_originated : SiteConf → Prefix → Bool
is_originated site p = list_any (same_prefix p) site.origins

abbrev pub own_standings : SiteConf → Prefix → List (Source × Standing)
own_standings site p = if is_originated site p then (Own, Considered (own_candidate site.me)) ∷ [] else []

-- A PEER'S ROUTE

-- the router is a reflector, and its CLUSTER_ID stands in the CLUSTER_LIST
abbrev pub has_cluster_loop : SiteConf → Attr → Bool
has_cluster_loop site attr = site.reflector && list_any (same_addr site.cluster) attr.clusters

abbrev pub is_denial : Action → Bool
is_denial Deny = true
is_denial (Permit s) = false

-- why the router may not choose a peer's route: the first test that holds. A route with the router itself as NEXT_HOP
-- needs no test (RFC 4271, 5.1.3): the router put itself there in a route that it advertised inside its AS, which comes
-- back only by reflection, and so with the router as ORIGINATOR_ID
abbrev pub exclusion : SiteConf → Action → Attr → Option Reason
exclusion site action attr =
    -- its AS_PATH holds the router's AS (RFC 4271, 9.1.2)
    if holds site.asn attr.path then Some Loop
    -- its ORIGINATOR_ID is the router's address (RFC 4456, 8)
    else if same_maybe_addr attr.oid (Some site.me) then Some Originator
    -- it has been in the router's cluster (RFC 4456, 8)
    else if has_cluster_loop site attr then Some Cluster
    -- the import policy denies it (RFC 4271, 9.1.1)
    else if is_denial action then Some Denied
    -- there is no way to its NEXT_HOP (RFC 4271, 9.1.2), where interior walks alone lead there (own)
    else if is_none (cost_in site.costs attr.next) then Some Unresolved
    else None

-- what the import policy sets
abbrev pub set_preference : Action → Option ℕ
set_preference Deny = None
set_preference (Permit s) = s.pref

abbrev pub set_med : Action → Option ℕ → Option ℕ
set_med Deny med = med
set_med (Permit s) med = option_or s.med med

-- the communities, with the one that it adds
abbrev pub set_communities : Action → List ℕ → List ℕ
set_communities Deny cs = cs
set_communities (Permit s) cs = with_given s.add cs

-- the degree of preference: of an external route what the import policy sets, of an internal one its LOCAL_PREF
-- (RFC 4271, 9.1.1)
abbrev pub preference : Bool → Action → Attr → ℕ
preference true action attr = unwrap_or (set_preference action) default_preference
preference false action attr = unwrap_or attr.pref default_preference

-- the attributes after import: MED and communities as the policy left them, and the preference as LOCAL_PREF
abbrev pub imported : Bool → Action → Attr → Attr
imported external action attr = record attr {
  med = set_med action attr.med;
  pref = Some (preference external action attr);
  comms = set_communities action attr.comms;
}

-- a peer's route as a candidate; its identifier is the peer's address (own), and its ORIGINATOR_ID counts as that where
-- it has one
abbrev pub peer_candidate : SiteConf → SiteSession → Action → Attr → Candidate
peer_candidate site from action attr = record {
  source = FromPeer from.peer;
  attr = imported from.external action attr;
  pref = preference from.external action attr;
  external = from.external;
  cost = unwrap_or (cost_in site.costs attr.next) 0;
  ident = from.peer;
}

abbrev pub standing_by : Option Reason → Candidate → Standing
standing_by (Some reason) candidate = Excluded reason
standing_by None candidate = Considered candidate

abbrev pub judged_standing : SiteConf → SiteSession → Action → Attr → Standing
judged_standing site from action attr = standing_by (exclusion site action attr) (peer_candidate site from action attr)

-- how a route from the peer of the session stands at the router
abbrev pub peer_standing : SiteConf → Prefix → SiteSession → Attr → Standing
peer_standing site p from attr = judged_standing site from (judged from.policy_in p attr) attr

-- the route that the router has received from the peer for the prefix
abbrev pub route_from : List (RouteKey × Attr) → Addr → Prefix → Addr → Option Attr
route_from es r p u = lookup (is_at (route_cmp (record { to = r; prefix = p; from = u }))) es

-- a route counts while the session that it came over is up
abbrev pub standing_over : SiteConf → Prefix → SiteSession → Option Attr → Option (Source × Standing)
standing_over site p from None = None
standing_over site p from (Some attr) = if from.up then Some (FromPeer from.peer, peer_standing site p from attr)
    else None

abbrev pub standing_from : SiteConf → Prefix → List (RouteKey × Attr) → SiteSession → Option (Source × Standing)
standing_from site p es from = standing_over site p from (route_from es site.me p from.peer)

-- DECISIONS

-- the routes to the prefix: the router's own first, then those of its peers, by address
abbrev pub routes_at : SiteConf → Prefix → List (RouteKey × Attr) → List (Source × Standing)
routes_at site p es = own_standings site p ++ filter_map (standing_from site p es) site.sessions

-- the standings to which these were added
abbrev pub added : Standings → List (Source × Standing) → Standings
added m es = fold (λ n e. with_standing e.0 e.1 n) m es

-- how each source's route to the prefix stands at the router, and whether the router compares MED over all neighbours
abbrev pub standings : SiteConf → Prefix → List (RouteKey × Attr) → Standings
standings site p es = added (no_standings site.med_always) (routes_at site p es)

-- the route that the router chooses (RFC 4271, 9.1.2.2; RFC 4456, 9)
unfoldable pub best : Network → Addr → Prefix → Option Candidate
best s r p = option_and_then (λ site. best_of (standings site p s.received)) (site_of s.conf r)
