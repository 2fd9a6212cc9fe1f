-- What one router sees of the configuration: all that what it decides and advertises depends on.
use Rattle.std.specs.Prelude.{◌≡◌, not, ◌==◌, List, [], ◌∷◌, map, filter, find, Option, Some, None, option_map, Result, Ok, Err, if◌then◌else◌}
use Rattle.net_prefix.specs.declared.addr.Addr.{Addr}
use Rattle.net_conf.specs.declared.tables.Ends.{Ends}
use Rattle.net_conf.specs.declared.tables.Node.{Node}
use Rattle.net_conf.specs.declared.site.SiteConf.{SiteConf}
use Rattle.net_conf.specs.declared.site.SiteSession.{SiteSession}
use Rattle.net_conf.specs.declared.refusal.Refusal.{Refusal}
use Rattle.net_conf.specs.declared.refusal.Refusal.TheVariants.{NoRouter, BadEnd}
use Rattle.net_conf.specs.Edits.{first_of, refusal_or_memory}
use Rattle.net_conf.specs.Configuration.{Configuration, node_at, has_node, is_virtual, as_of, is_end, is_external, is_client, is_reflector, cluster_id, compares_all_meds, puts_itself, import_rules, export_rules, origins_of}
use Rattle.net_conf.specs.Costs.{costs_of, is_up}

-- the other end
abbrev pub peer_in : Addr → Ends → Addr
peer_in r e = if e.low.0 == r.0 then e.high else e.low

-- the router's session with the peer
abbrev pub session_of : Configuration → Addr → Addr → SiteSession
session_of c r u = record {
  peer = u;
  peer_asn = as_of c u;
  up = is_up c r u;
  external = is_external c r u;
  client = is_client c r u;
  own_next = puts_itself c r u;
  policy_in = import_rules c r u;
  policy_out = export_rules c r u;
}

-- the peers with which the router has a session, up or down, in order of address
abbrev pub peers_of : Configuration → Addr → List Addr
peers_of c r = map (λ e. peer_in r e.0) (filter (λ e. is_end r e.0) c.sessions)

-- the router's sessions
abbrev pub sessions_of : Configuration → Addr → List SiteSession
sessions_of c r = map (session_of c r) (peers_of c r)

-- what the router sees of the configuration, whose node is this one
abbrev pub site_at : Configuration → Addr → Node → SiteConf
site_at c r n = record {
  me = r;
  asn = n.asn;
  cluster = cluster_id c r;
  reflector = is_reflector c r;
  med_always = compares_all_meds c r;
  origins = origins_of c r;
  sessions = sessions_of c r;
  costs = costs_of c r;
}

-- the router's own part of the configuration, where there is a router
unfoldable pub site_of : Configuration → Addr → Option SiteConf
site_of c r = option_map (λ n. site_at c r n) (node_at c r)

-- why there is no site: there is no router, or a virtual peer stands there
abbrev pub site_refusal : Configuration → Addr → Option Refusal
site_refusal c r = first_of ((not (has_node c r), NoRouter) ∷ (is_virtual c r, BadEnd) ∷ [])

-- the answer to who asks for a site
abbrev pub IsSite : Configuration → Addr → Result SiteConf Refusal → Type 0
IsSite c r (Ok site) = (site_refusal c r ≡ None) × (site_of c r ≡ Some site)
IsSite c r (Err e) = refusal_or_memory (site_refusal c r) ≡ e

-- the router's session with the peer, where it has one
abbrev pub session_with : SiteConf → Addr → Option SiteSession
session_with site u = find (λ x. x.peer.0 == u.0) site.sessions
