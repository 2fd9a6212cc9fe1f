-- Which routes an edit has decided anew (RFC 4271, 9.1).
use Rattle.std.specs.Prelude.{◌≡◌, ◌⊎◌, false, Bool, List, Option, Some}
use Rattle.std.specs.Option.{option_map_or}
use Rattle.std.specs.List.{list_any, AllByRecursion}
use Rattle.std.specs.List.Sorted.{IsStrictlySortedBy}
use Rattle.std.specs.declared.cmp.Ordering.{Ordering}
use Rattle.std.specs.Ordering.{ordering_then, is_eq}
use Rattle.net_prefix.specs.declared.addr.Addr.{Addr}
use Rattle.net_prefix.specs.Address.{addr_cmp}
use Rattle.net_prefix.specs.Prefix.{Prefix, prefix_cmp}
use Rattle.net_conf.specs.Facts.{same_facts}
use Rattle.net_conf.specs.RouterSites.{router_site}
use Rattle.net_conf.specs.declared.site.SiteConf.{SiteConf}
use Rattle.route_select.specs.Selection.{Standings, no_standings}
use Rattle.reference_machine.specs.Network.{Network}
use Rattle.reference_machine.specs.Decision.{standings}
use Rattle.cell_engine.specs.Cells.{effective}

-- how each route to the prefix stands at a router, and how it compares them, where one stands: none stands at a virtual
-- peer, or where nobody is
abbrev pub standings_at : Network → Addr → Prefix → Standings
standings_at s r p = option_map_or (λ site. effective (standings site p s.received)) (router_site s.conf r)
    (no_standings false)

-- a route to the prefix stands there
abbrev pub HasStanding : Network → Addr → Prefix → Type 0
HasStanding s r p = standings_at s r p ≡ no_standings false → ⊥

-- what is set for the router becomes other, or a session of it comes up or goes down
abbrev pub AreFactsMoved : Option SiteConf → Option SiteConf → Type 0
AreFactsMoved (Some old) (Some new) = same_facts old new ≡ false
AreFactsMoved _ _ = ⊥

-- why the router decides its route to the prefix anew when s becomes t: a route stands otherwise, comes or goes; or the
-- router's settings or sessions become other, and a route stands before, or after
abbrev pub IsTouched : Network → Network → Addr → Prefix → Type 0
IsTouched s t r p =
    (standings_at s r p ≡ standings_at t r p → ⊥)
    ⊎ (AreFactsMoved (router_site s.conf r) (router_site t.conf r) × (HasStanding s r p ⊎ HasStanding t r p))

-- by router, then by prefix
abbrev pub cell_cmp : Addr × Prefix → Addr × Prefix → Ordering
cell_cmp x y = ordering_then (addr_cmp x.0 y.0) (prefix_cmp x.1 y.1)

abbrev pub is_cell_of : Addr → Prefix → Addr × Prefix → Bool
is_cell_of r p x = is_eq (cell_cmp (r, p) x)

-- routers and prefixes at which s becomes t: each once, by router, then prefix; all at which a route stands otherwise
-- then; and none that is not touched
pub record IsRefreshed (s t : Network) (cells : List (Addr × Prefix)) : Type 0 where
  pub ascending : IsStrictlySortedBy cell_cmp cells
  pub complete : (r : Addr) (p : Prefix) → list_any (is_cell_of r p) cells ≡ false →
      standings_at s r p ≡ standings_at t r p
  pub touched : AllByRecursion (λ x. IsTouched s t x.0 x.1) cells
