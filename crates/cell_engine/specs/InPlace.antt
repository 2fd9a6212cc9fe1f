-- No public contract cites this file. A message taken into a choice where it stands, so that it can be taken back.
use Rattle.std.specs.Prelude.{◌≡◌, true, List, map, Option, Some, None, is_some}
use Rattle.std.specs.List.Sorted.{IsStrictlySortedBy}
use Rattle.net_prefix.specs.declared.addr.Addr.{Addr}
use Rattle.net_prefix.specs.Address.{addr_cmp}
use Rattle.path_attr.specs.declared.attr.Attr.{Attr}
use Rattle.net_conf.specs.declared.site.SiteConf.{SiteConf}
use Rattle.route_select.specs.declared.candidate.Source.{Source}
use Rattle.route_select.specs.declared.candidate.Source.TheVariants.{Peer as FromPeer}
use Rattle.route_select.specs.declared.candidate.Reason.TheVariants.{Loop}
use Rattle.route_select.specs.declared.candidate.Standing.{Standing}
use Rattle.route_select.specs.declared.candidate.Standing.TheVariants.{Excluded}
use Rattle.route_select.specs.Selection.{Standings, IsFrom, best_of, standing_from, with_standing, without_source}
use Rattle.session_queue.specs.declared.message.Message.{Message}
use Rattle.session_queue.specs.declared.message.Message.TheVariants.{Update, Withdraw}
use Rattle.session_queue.specs.Telling.{prefix_of}
use Rattle.cell_engine.specs.Cells.{sends_of, standings_by, with_news}
use Rattle.cell_engine.specs.Updates.{standings_after}

-- the standings, once the peer's message has been taken, but for a route that it withdraws: that is excluded, and not
-- yet forgotten
abbrev pub set_aside : SiteConf → Addr → Message → Standings → Standings
set_aside site u (Update p attr) m = standings_after site u (Update p attr) m
set_aside site u (Withdraw p) m = with_standing (FromPeer u) (Excluded Loop) m

-- what the message withdraws is forgotten
abbrev pub forgotten : Addr → Message → Standings → Standings
forgotten u (Update p attr) m = m
forgotten u (Withdraw p) m = without_source (FromPeer u) m

-- the source stands as it did
abbrev pub put_back : Source → Option Standing → Standings → Standings
put_back source (Some standing) m = with_standing source standing m
put_back source None m = without_source source m

-- a standing, if there is one, that the source can have
abbrev pub IsHeld : Source → Option Standing → Type 0
IsHeld source had = (standing : Standing) → had ≡ Some standing → IsFrom source standing

-- where the source stood, it is known
abbrev pub IsKnownIn : Source → Option Standing → Standings → Type 0
IsKnownIn source had m = (standing : Standing) → had ≡ Some standing → is_some (standing_from m source) ≡ true

-- what a router that has received these routes sends for the peer's message
abbrev pub sends_with : SiteConf → Addr → Message → List (Addr × Attr) → List (Addr × Message)
sends_with site u m routes = sends_of site site (prefix_of m) (best_of (standings_by site (prefix_of m) routes))
    (best_of (standings_by site (prefix_of m) (with_news u m routes)))

-- a site's sessions are in the order of their peers
abbrev pub ArePeersInOrder : Option SiteConf → Type 0
ArePeersInOrder site = (s : SiteConf) → site ≡ Some s → IsStrictlySortedBy addr_cmp (map (λ x. x.peer) s.sessions)
