-- What a router advertises of one route to its peers, session by session.
use Rattle.std.specs.Prelude.{◌≡◌, Bool, false, Option, Some, None, if◌then◌else◌}
use Rattle.net_prefix.specs.declared.addr.Addr.{Addr}
use Rattle.net_prefix.specs.Prefix.{Prefix}
use Rattle.path_attr.specs.declared.attr.Attr.{Attr}
use Rattle.route_policy.specs.declared.rule.Settings.{Settings}
use Rattle.route_select.specs.declared.candidate.Source.{Source}
use Rattle.route_select.specs.declared.candidate.Source.TheVariants.{Own, Peer as FromPeer}
use Rattle.route_select.specs.declared.candidate.Candidate.{Candidate}
use Rattle.net_conf.specs.declared.site.SiteConf.{SiteConf}
use Rattle.net_conf.specs.declared.site.SiteSession.{SiteSession}
use Rattle.reflect_out.specs.Advertising.{is_from, is_client_of, advertised_over, to_other_as, to_own_as, reflected}

-- what adverts are made of: a router's part of the configuration, and the route that it chose for a prefix
pub record Basis : Type 0 where
  pub site : SiteConf
  pub prefix : Prefix
  pub best : Candidate

-- what is advertised over the session: nothing where the route was learned from its peer (own)
abbrev pub told_over : SiteConf → Prefix → Candidate → SiteSession → Option Attr
told_over site p b to = if is_from to.peer b.source then None else advertised_over site p b to

-- the route was learned from a client of the router
abbrev pub is_from_client : SiteConf → Source → Bool
is_from_client site Own = false
is_from_client site (FromPeer u) = is_client_of site u

-- what is kept is what goes to another AS by these settings
abbrev pub IsOutward : SiteConf → Candidate → Option (Settings × Attr) → Type 0
IsOutward site b kept = (s : Settings) (a : Attr) → kept ≡ Some (s, a) → a ≡ to_other_as site s b.attr

-- what is kept is what is reflected
abbrev pub IsInward : SiteConf → Candidate → Option Attr → Type 0
IsInward site b kept = (u : Addr) (a : Attr) → b.source ≡ FromPeer u → kept ≡ Some a → a ≡ reflected site u b.attr

-- what is kept is what goes inside the AS to a peer for whom the router puts itself as NEXT_HOP, or does not
abbrev pub IsInside : SiteConf → Candidate → Option (Bool × Attr) → Type 0
IsInside site b kept = (to : SiteSession) (a : Attr) → kept ≡ Some (to.own_next, a) → a ≡ to_own_as site to b
