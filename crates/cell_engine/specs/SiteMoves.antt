-- Which cells an edit can change: those where the standing of a route can become another, or what is advertised of it.
-- All others stay as they are, and nothing is sent for them.
use Rattle.std.specs.Prelude.{◌≡◌, Bool, true, false, not, ◌&&◌, ◌||◌, List, Option, Some, None, if◌then◌else◌}
use Rattle.std.specs.Option.{option_map_or}
use Rattle.std.specs.List.{list_any}
use Rattle.std.proofs.Math.Bool.{beq}
use Rattle.net_prefix.specs.declared.addr.Addr.{Addr}
use Rattle.net_prefix.specs.Prefix.{Prefix}
use Rattle.path_attr.specs.Number.{same_number}
use Rattle.path_attr.specs.declared.attr.Attr.{Attr}
use Rattle.igp_cost.specs.Trees.{cost_in}
use Rattle.route_policy.specs.Judging.{judged}
use Rattle.net_conf.specs.declared.site.SiteConf.{SiteConf}
use Rattle.net_conf.specs.declared.site.SiteSession.{SiteSession}
use Rattle.net_conf.specs.Sites.{session_with}
use Rattle.net_conf.specs.Facts.{same_facts}
use Rattle.route_select.specs.declared.candidate.Reason.{Reason}
use Rattle.route_select.specs.declared.candidate.Reason.TheVariants.{Unresolved}
use Rattle.reference_machine.specs.Decision.{is_originated, exclusion}
use Rattle.cell_engine.specs.Cells.{is_any}

-- a router's part of the configuration before an edit and after it
pub record SitePair : Type 0 where
  pub old : SiteConf
  pub new : SiteConf

-- a route that no test before that of its NEXT_HOP excludes
abbrev pub is_about_cost : Option Reason → Bool
is_about_cost None = true
is_about_cost (Some Unresolved) = true
is_about_cost _ = false

-- the cost to its NEXT_HOP counts for a route that came over the session
abbrev pub counts_cost : SiteConf → Prefix → Attr → SiteSession → Bool
counts_cost site p attr from = from.up && is_about_cost (exclusion site (judged from.policy_in p attr) attr)

-- the cost to an address becomes another, or comes, or goes
abbrev pub moves_cost_to : SitePair → Addr → Bool
moves_cost_to s to = not (same_number (cost_in s.old.costs to) (cost_in s.new.costs to))

-- the cost to the NEXT_HOP of these attributes does
abbrev pub is_cost_moved : SitePair → Attr → Bool
is_cost_moved s attr = moves_cost_to s attr.next

-- so does one that counts for the peer's route
abbrev pub is_route_moved : SitePair → Prefix → Addr × Attr → Bool
is_route_moved s p e = is_cost_moved s e.1 && option_map_or (counts_cost s.old p e.1) (session_with s.old e.0) false

-- the router comes to originate the prefix, or ceases to
abbrev pub is_own_moved : SitePair → Prefix → Bool
is_own_moved s p = not (beq (is_originated s.old p) (is_originated s.new p))

-- the router has a route to the prefix, its own or a peer's
abbrev pub has_route : SiteConf → Prefix → List (Addr × Attr) → Bool
has_route site p routes = is_any routes || is_originated site p

-- the router's cell can change: where its settings and which of its sessions are up stay, by its own route or by a cost
-- that counts; else wherever there is a route, before or after
abbrev pub is_moved : SitePair → Prefix → List (Addr × Attr) → Bool
is_moved s p routes =
    if same_facts s.old s.new then is_own_moved s p || list_any (is_route_moved s p) routes
    else has_route s.old p routes || is_originated s.new p

-- settings, sessions and originated prefixes stay: then a cell can move by a cost alone
pub record MovesCostsAlone (s : SitePair) : Type 0 where
  pub facts : same_facts s.old s.new ≡ true
  pub origins : (p : Prefix) → is_own_moved s p ≡ false
