-- How much of what routers decide an edit can change.
use Rattle.std.specs.Prelude.{◌≡◌, true, false, Option, Some, None, option_map, is_some}
use Rattle.std.specs.List.{list_any}
use Rattle.net_prefix.specs.declared.addr.Addr.{Addr}
use Rattle.net_prefix.specs.Address.{same_addr}
use Rattle.net_prefix.specs.Prefix.{Prefix, same_prefix}
use Rattle.net_conf.specs.declared.edit.Edit.{Edit}
use Rattle.net_conf.specs.declared.edit.Edit.TheVariants.{Client, OwnNext, Cluster, MedAlways, Rule, Clear, Origin, NoOrigin}
use Rattle.net_conf.specs.declared.edit.Scope.{Scope}
use Rattle.net_conf.specs.declared.edit.Scope.TheVariants.{Network, Site, Route}
use Rattle.net_conf.specs.declared.site.SiteConf.{SiteConf}
use Rattle.net_conf.specs.Configuration.{Configuration, origins_of}
use Rattle.net_conf.specs.Costs.{is_up}
use Rattle.net_conf.specs.Edits.{edited, refusal_of}
use Rattle.net_conf.specs.RouterSites.{router_site}

-- a setting is one router's; whether it originates a prefix concerns its route to that; all else may change any route
abbrev pub scope : Edit → Scope
scope (Client a b on) = Site a
scope (OwnNext a b on) = Site a
scope (Cluster a id) = Site a
scope (MedAlways a on) = Site a
scope (Rule a b side rule) = Site a
scope (Clear a b side) = Site a
scope (Origin a p) = Route a p
scope (NoOrigin a p) = Route a p
scope _ = Network

-- the one router whose part of the configuration changes, if it is but one
abbrev pub router_in : Scope → Option Addr
router_in Network = None
router_in (Site a) = Some a
router_in (Route a p) = Some a

-- LAWS

-- all others keep their parts of the configuration
abbrev pub SitesOfOthersStay : Type 0
SitesOfOthersStay = (c : Configuration) (e : Edit) (a r : Addr) → router_in (scope e) ≡ Some a → same_addr r a ≡ false →
    router_site (edited c e) r ≡ router_site c r

-- no session comes up or goes down
abbrev pub SessionsStay : Type 0
SessionsStay = (c : Configuration) (e : Edit) (a r t : Addr) → router_in (scope e) ≡ Some a →
    is_up (edited c e) r t ≡ is_up c r t

-- the one is a router before such an edit that is not refused
abbrev pub AreRoutersBefore : Type 0
AreRoutersBefore = (c : Configuration) (e : Edit) (a : Addr) → router_in (scope e) ≡ Some a → refusal_of c e ≡ None →
    is_some (router_site c a) ≡ true

-- and after it
abbrev pub AreRoutersAfter : Type 0
AreRoutersAfter = (c : Configuration) (e : Edit) (a : Addr) → router_in (scope e) ≡ Some a → refusal_of c e ≡ None →
    is_some (router_site (edited c e) a) ≡ true

-- of the router whose origination changes all but its originated prefixes stays
abbrev pub OriginsAloneChange : Type 0
OriginsAloneChange = (c : Configuration) (e : Edit) (a : Addr) (p : Prefix) → scope e ≡ Route a p →
    router_site (edited c e) a ≡ option_map (λ (site : SiteConf). record site { origins = origins_of (edited c e) a })
    (router_site c a)

-- and it originates the same other prefixes
abbrev pub OtherOriginsStay : Type 0
OtherOriginsStay = (c : Configuration) (e : Edit) (a : Addr) (p q : Prefix) → scope e ≡ Route a p →
    same_prefix q p ≡ false → list_any (same_prefix q) (origins_of (edited c e) a)
    ≡ list_any (same_prefix q) (origins_of c a)
