-- Laws of what a router sees of a configuration.
use Rattle.std.specs.Prelude.{◌≡◌, false, map, Option, Some, None, if◌then◌else◌}
use Rattle.std.specs.Option.{option_map_or}
use Rattle.std.specs.List.{list_any}
use Rattle.std.specs.List.Sorted.{IsStrictlySortedBy}
use Rattle.net_prefix.specs.declared.addr.Addr.{Addr}
use Rattle.net_prefix.specs.Address.{same_addr, addr_cmp}
use Rattle.net_prefix.specs.Prefix.{Prefix, same_prefix}
use Rattle.net_conf.specs.declared.site.SiteConf.{SiteConf}
use Rattle.net_conf.specs.declared.site.SiteSession.{SiteSession}
use Rattle.net_conf.specs.Configuration.{Configuration, has_session, originates, origins_of}
use Rattle.net_conf.specs.Costs.{is_up}
use Rattle.net_conf.specs.Sites.{session_of, peers_of, site_of, session_with}
use Rattle.net_conf.specs.Configured.{IsConfigured}

-- PEERS

-- the peers of a router are in order of address, each once
abbrev pub PeersAreInOrder : Type 0
PeersAreInOrder = (c : Configuration) (r : Addr) → IsConfigured c → IsStrictlySortedBy addr_cmp (peers_of c r)

-- they are those with which it has a session
abbrev pub PeersHaveSessions : Type 0
PeersHaveSessions = (c : Configuration) (r t : Addr) → IsConfigured c →
    list_any (same_addr t) (peers_of c r) ≡ has_session c r t

-- SITES

-- a router's site is under its address
abbrev pub SitesAreOfTheirRouters : Type 0
SitesAreOfTheirRouters = (c : Configuration) (r : Addr) (site : SiteConf) → site_of c r ≡ Some site → site.me ≡ r

-- the sessions of a site are in order of the peers' addresses, one a peer
abbrev pub SiteSessionsAreInOrder : Type 0
SiteSessionsAreInOrder = (c : Configuration) (r : Addr) (site : SiteConf) → IsConfigured c → site_of c r ≡ Some site →
    IsStrictlySortedBy addr_cmp (map (λ x. x.peer) site.sessions)

-- a router's session with a peer, by the configuration
abbrev pub session_if_any : Configuration → Addr → Addr → Option SiteSession
session_if_any c r t = if has_session c r t then Some (session_of c r t) else None

-- a site has just the sessions of its router
abbrev pub SitesHaveSessions : Type 0
SitesHaveSessions = (c : Configuration) (r t : Addr) (site : SiteConf) → IsConfigured c → site_of c r ≡ Some site →
    session_with site t ≡ session_if_any c r t

-- a session is up by the site where it is by the configuration
abbrev pub SitesKnowSessionsUp : Type 0
SitesKnowSessionsUp = (c : Configuration) (r t : Addr) (site : SiteConf) → IsConfigured c → site_of c r ≡ Some site →
    option_map_or (λ x. x.up) (session_with site t) false ≡ is_up c r t

-- the prefixes listed for a router are those that it originates
abbrev pub OriginsAreListed : Type 0
OriginsAreListed = (c : Configuration) (r : Addr) (p : Prefix) →
    list_any (same_prefix p) (origins_of c r) ≡ originates c r p
