-- What one router has received for one prefix, how each route to it stands there, and what the router sends when that
-- changes (RFC 4271, 9; RFC 4456, 8 to 10).
use Rattle.std.specs.Prelude.{◌≡◌, Bool, true, false, ◌&&◌, List, [], ◌∷◌, ◌++◌, filter, Option, Some, None, option_map}
use Rattle.std.specs.Option.{option_map_or}
use Rattle.std.specs.List.{filter_map}
use Rattle.std.specs.Map.{lookup, remove_entry}
use Rattle.std.specs.BTreeMap.{insert_entry, is_at}
use Rattle.std.specs.FinMap as finite
use Rattle.net_prefix.specs.declared.addr.Addr.{Addr}
use Rattle.net_prefix.specs.Address.{addr_cmp}
use Rattle.net_prefix.specs.Prefix.{Prefix}
use Rattle.path_attr.specs.declared.attr.Attr.{Attr}
use Rattle.net_conf.specs.declared.site.SiteConf.{SiteConf}
use Rattle.net_conf.specs.declared.site.SiteSession.{SiteSession}
use Rattle.net_conf.specs.Sites.{session_with}
use Rattle.route_select.specs.declared.candidate.Source.{Source}
use Rattle.route_select.specs.declared.candidate.Candidate.{Candidate}
use Rattle.route_select.specs.declared.candidate.Standing.{Standing}
use Rattle.route_select.specs.Selection.{Standings, no_standings, best_of}
use Rattle.session_queue.specs.declared.message.Message.{Message}
use Rattle.session_queue.specs.declared.message.Message.TheVariants.{Update, Withdraw}
use Rattle.session_queue.specs.Telling.{prefix_of}
use Rattle.reference_machine.specs.Decision.{own_standings, standing_over, added}
use Rattle.reference_machine.specs.Advertising.{advert_of, change_of}

-- received: the routes to the prefix in the router's Adj-RIBs-In, as received, by sender (RFC 4271, 3.2);
-- standings: how each source's route stands, and how their MULTI_EXIT_DISCs are compared
pub record Cell : Type 0 where
  pub received : List (Addr × Attr)
  pub standings : Standings

abbrev pub new_cell : Cell
new_cell = record { received = []; standings = no_standings false }

-- DECISIONS

-- the route received from the peer
abbrev pub route_of : List (Addr × Attr) → Addr → Option Attr
route_of routes u = lookup (is_at (addr_cmp u)) routes

abbrev pub standing_of : SiteConf → Prefix → List (Addr × Attr) → SiteSession → Option (Source × Standing)
standing_of site p routes from = standing_over site p from (route_of routes from.peer)

-- how each source's route to the prefix stands at the router of the site, by what it has received, and how it compares
-- them
abbrev pub standings_by : SiteConf → Prefix → List (Addr × Attr) → Standings
standings_by site p routes =
    added (no_standings site.med_always) (own_standings site p ++ filter_map (standing_of site p routes) site.sessions)

abbrev pub is_any : {A : Type 0} → List A → Bool
is_any [] = false
is_any (x ∷ xs) = true

-- a route stands
abbrev pub has_any : Standings → Bool
has_any standings = is_any (finite.entries standings.known)

-- what counts of them: where no route stands, none is compared, and how does not count
abbrev pub effective : Standings → Standings
effective standings = record standings { med_always = has_any standings && standings.med_always }

-- what counts of how the routes stand at the router of the site
abbrev pub standings_of : SiteConf → Prefix → List (Addr × Attr) → Standings
standings_of site p routes = effective (standings_by site p routes)

-- a router decides by its site; a virtual peer has none, and decides nothing
abbrev pub decided : Option SiteConf → Prefix → List (Addr × Attr) → Cell
decided None p routes = record { received = routes; standings = no_standings false }
decided (Some site) p routes = record { received = routes; standings = standings_of site p routes }

-- what the cell holds was decided by this site
abbrev pub IsDecided : Option SiteConf → Prefix → Cell → Type 0
IsDecided site p h = h ≡ decided site p h.received

-- WHAT IS SENT

-- the router has a session with the peer, and it is up
abbrev pub is_up_in : SiteConf → Addr → Bool
is_up_in site t = option_map_or (λ x. x.up) (session_with site t) false

abbrev pub send_to : Addr → Option Message → Option (Addr × Message)
send_to t message = option_map (λ m. (t, m)) message

-- what the router sends over the session, which is up, when its site and its choice change
abbrev pub send_over : SiteConf → SiteConf → Prefix → Option Candidate → Option Candidate → SiteSession →
    Option (Addr × Message)
send_over old new p had has to =
    send_to to.peer (change_of p (advert_of (is_up_in old to.peer) (Some old) to.peer p had)
    (advert_of to.up (Some new) to.peer p has))

-- the sessions that are up
abbrev pub up_sessions : SiteConf → List SiteSession
up_sessions site = filter (λ x. x.up) site.sessions

-- a message to each peer to which another route is advertised than before, by address of the peer
abbrev pub sends_of : SiteConf → SiteConf → Prefix → Option Candidate → Option Candidate → List (Addr × Message)
sends_of old new p had has = filter_map (send_over old new p had has) (up_sessions new)

-- a cell that takes the place of another, and what is sent for that
pub record Outcome : Type 0 where
  pub cell : Cell
  pub sends : List (Addr × Message)

-- DELIVERIES

-- the routes received, once the peer's message has been taken: an update replaces its route, a withdrawal removes it
-- (RFC 4271, 9)
abbrev pub with_news : Addr → Message → List (Addr × Attr) → List (Addr × Attr)
with_news u (Update p attr) routes = insert_entry addr_cmp routes u attr
with_news u (Withdraw p) routes = remove_entry (is_at (addr_cmp u)) routes

abbrev pub decision : SiteConf → SiteConf → Prefix → Cell → Cell → Outcome
decision old new p had has =
    record { cell = has; sends = sends_of old new p (best_of had.standings) (best_of has.standings) }

-- what a router does with a peer's message
unfoldable pub delivered : SiteConf → Cell → Addr → Message → Outcome
delivered site h u m = decision site site (prefix_of m) h (decided (Some site) (prefix_of m) (with_news u m h.received))

-- a virtual peer keeps what it receives, and sends nothing (own)
unfoldable pub stored : Cell → Addr → Message → Outcome
stored h u m = record { cell = decided None (prefix_of m) (with_news u m h.received); sends = [] }

-- EDITS

-- what was received over sessions that are up (RFC 4271, 6 and 8)
abbrev pub kept_routes : SiteConf → List (Addr × Attr) → List (Addr × Attr)
kept_routes site routes = filter (λ e. is_up_in site e.0) routes

-- what a router does when its site becomes another
unfoldable pub refreshed : SiteConf → SiteConf → Prefix → Cell → Outcome
refreshed old new p h = decision old new p h (decided (Some new) p (kept_routes new h.received))
