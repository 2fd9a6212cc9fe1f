-- Whom an edit concerns.
use Rattle.std.specs.Prelude.{◌≡◌, Bool, true, false, List, option_map}
use Rattle.std.specs.List.{list_any}
use Rattle.std.specs.BTreeMap.{is_at}
use Rattle.net_prefix.specs.declared.addr.Addr.{Addr}
use Rattle.net_prefix.specs.Address.{addr_cmp}
use Rattle.net_conf.specs.declared.site.SiteConf.{SiteConf}
use Rattle.net_conf.specs.Configuration.{Configuration, ends_session}
use Rattle.net_conf.specs.Costs.{costs_of, is_up}
use Rattle.net_conf.specs.RouterSites.{router_site}

-- the address is among these
abbrev pub is_among : Addr → List Addr → Bool
is_among r rs = list_any (is_at (addr_cmp r)) rs

-- the router's part of the configuration stays, but for its costs where it has no session; and each session to it stays
-- up or down
pub record StaysAt (c d : Configuration) (r : Addr) : Type 0 where
  pub facts : router_site d r ≡ option_map (λ (s : SiteConf). record s { costs = costs_of d r }) (router_site c r)
  pub costs : ends_session c r ≡ true → costs_of d r ≡ costs_of c r
  pub up : (u : Addr) → is_up d u r ≡ is_up c u r

-- of everybody else
abbrev pub ConcernsAlone : Configuration → Configuration → List Addr → Type 0
ConcernsAlone c d rs = (r : Addr) → is_among r rs ≡ false → StaysAt c d r
