-- No public contract cites this file. What a message does to standings that are kept, and what is sent over one
-- session.
use Rattle.std.specs.Prelude.{◌≡◌, Bool, Option, Some, None, option_map, if◌then◌else◌}
use Rattle.std.specs.Option.{option_map_or, option_to_list}
use Rattle.net_prefix.specs.declared.addr.Addr.{Addr}
use Rattle.net_prefix.specs.Prefix.{Prefix}
use Rattle.net_conf.specs.declared.site.SiteConf.{SiteConf}
use Rattle.net_conf.specs.declared.site.SiteSession.{SiteSession}
use Rattle.net_conf.specs.Sites.{session_with}
use Rattle.route_select.specs.declared.candidate.Source.TheVariants.{Peer as FromPeer}
use Rattle.route_select.specs.declared.candidate.Candidate.{Candidate}
use Rattle.route_select.specs.Selection.{Standings, without_source}
use Rattle.session_queue.specs.declared.message.Message.{Message}
use Rattle.session_queue.specs.declared.message.Message.TheVariants.{Update, Withdraw}
use Rattle.reference_machine.specs.Decision.{standing_over, added}
use Rattle.cell_engine.specs.Cells.{effective, send_over}

-- the standings, once the peer's message has been taken: its route is put, where their session is up, or dropped
abbrev pub standings_after : SiteConf → Addr → Message → Standings → Standings
standings_after site u (Update p attr) m =
    option_map_or (λ x. added m (option_to_list (standing_over site p x (Some attr)))) (session_with site u) m
standings_after site u (Withdraw p) m = without_source (FromPeer u) m

-- these standings, compared like that
abbrev pub compared : Bool → Standings → Standings
compared always standings = record standings { med_always = always }

-- where a route stands, they are compared like that
abbrev pub ComparesAt : Bool → Standings → Type 0
ComparesAt always standings = effective standings ≡ effective (compared always standings)

-- what adverts are made of: a router's part of the configuration, and its best route
pub record Basis : Type 0 where
  pub site : SiteConf
  pub best : Option Candidate

-- what is sent over the session: nothing while it is down
abbrev pub send_if_up : SiteConf → SiteConf → Prefix → Option Candidate → Option Candidate → SiteSession →
    Option (Addr × Message)
send_if_up old new p had has to = if to.up then send_over old new p had has to else None

-- the route, whatever its cost: no path attribute holds it (RFC 4271, 5)
abbrev pub without_cost : Candidate → Candidate
without_cost c = record c { cost = 0 }

abbrev pub costless : Option Candidate → Option Candidate
costless chosen = option_map without_cost chosen
