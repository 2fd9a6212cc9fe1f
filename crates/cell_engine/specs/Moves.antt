-- Which cells an edit can change.
use Rattle.std.specs.Prelude.{Bool, true, not, Option, Some, None}
use Rattle.std.specs.List.{list_any}
use Rattle.net_prefix.specs.declared.addr.Addr.{Addr}
use Rattle.net_prefix.specs.Prefix.{Prefix}
use Rattle.net_conf.specs.Configuration.{Configuration}
use Rattle.net_conf.specs.Costs.{is_up}
use Rattle.net_conf.specs.RouterSites.{router_site}
use Rattle.net_conf.specs.declared.site.SiteConf.{SiteConf}
use Rattle.cell_engine.specs.Cells.{Cell}
use Rattle.cell_engine.specs.SiteMoves.{has_route, is_moved}

-- a router's by what becomes of its part of the configuration, or where it is new by a route that it has; a virtual
-- peer's where it loses a route
abbrev pub is_moved_by : Option SiteConf → Option SiteConf → Configuration → Addr → Prefix → Cell → Bool
is_moved_by (Some old) (Some new) d r p h = is_moved (record { old = old; new = new }) p h.received
is_moved_by None (Some new) d r p h = has_route new p h.received
is_moved_by None None d r p h = list_any (λ e. not (is_up d e.0 r)) h.received
is_moved_by _ _ d r p h = true

-- the cell can change when the configuration c becomes d
abbrev pub moves : Configuration → Configuration → Addr → Prefix → Cell → Bool
moves c d r p h = is_moved_by (router_site c r) (router_site d r) d r p h
