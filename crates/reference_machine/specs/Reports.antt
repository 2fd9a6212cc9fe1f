-- What the machine reports of its state.
use Rattle.std.specs.Prelude.{ℕ, Bool, true, false, List, [], ◌∷◌, map, Option, Some, None, option_map, option_and_then, if◌then◌else◌}
use Rattle.std.specs.Option.{unwrap_or}
use Rattle.std.specs.List.{filter_map, list_all}
use Rattle.net_prefix.specs.declared.addr.Addr.{Addr}
use Rattle.net_prefix.specs.Prefix.{Prefix}
use Rattle.path_attr.specs.declared.attr.Attr.{Attr}
use Rattle.net_conf.specs.Configuration.{Configuration}
use Rattle.net_conf.specs.declared.site.SiteConf.{SiteConf}
use Rattle.net_conf.specs.Sites.{site_of}
use Rattle.igp_cost.specs.Trees.{cost_in, first_hop_in}
use Rattle.net_conf.specs.Costs.{is_up, costs_of}
use Rattle.route_select.specs.declared.candidate.Source.{Source}
use Rattle.route_select.specs.declared.candidate.Standing.{Standing}
use Rattle.route_select.specs.Selection.{Standings, considered, reason_for}
use Rattle.route_select.specs.declared.candidate.Candidate.{Candidate}
use Rattle.route_select.specs.declared.candidate.Reason.{Reason}
use Rattle.session_queue.specs.declared.message.Message.{Message}
use Rattle.sim_event.specs.declared.reply.Held.{Held}
use Rattle.session_queue.specs.declared.direction.Direction.{Direction}
use Rattle.std.specs.FinMap as finite
use Rattle.reference_machine.specs.declared.rows.RouteKey.{RouteKey}
use Rattle.reference_machine.specs.Network.{Network, routes_from, messages_in}
use Rattle.reference_machine.specs.Decision.{best, standings}
use Rattle.reference_machine.specs.Advertising.{prefixes_at, in_order, advertised}

-- a route that was chosen
abbrev pub held_of : Prefix → Option Candidate → Option Held
held_of p None = None
held_of p (Some b) = Some (record { prefix = p; source = b.source; attr = b.attr })

-- the router's Loc-RIB (RFC 4271, 3.2), decided afresh: its choices, in order of prefix
unfoldable pub loc_rib : Network → Addr → List Held
loc_rib s r = filter_map (λ p. held_of p (best s r p)) (in_order (prefixes_at s r))

-- the router's choice for the prefix
unfoldable pub choice : Network → Addr → Prefix → Option Held
choice s r p = held_of p (best s r p)

-- the source of the entry, and why its route was chosen or dropped, among the standings
abbrev pub why : Standings → (Source × Standing) → (Source × Reason)
why standings e = (e.0, reason_for standings.med_always (considered standings) e.1)

-- why the route of each source was chosen or dropped, in the order of the sources
abbrev pub reasons_of : Standings → List (Source × Reason)
reasons_of standings = map (why standings) (finite.entries standings.known)

abbrev pub reasons_at : Prefix → List (RouteKey × Attr) → Option SiteConf → List (Source × Reason)
reasons_at p es None = []
reasons_at p es (Some site) = reasons_of (standings site p es)

-- why each route of the router to the prefix was chosen or dropped: its own first, then those of its peers, by address
unfoldable pub reasons : Network → Addr → Prefix → List (Source × Reason)
reasons s r p = reasons_at p s.received (site_of s.conf r)

-- the router's Adj-RIB-In of the peer (RFC 4271, 3.2), as received; empty while the session is down
unfoldable pub adj_rib_in : Network → Addr → Addr → List (Prefix × Attr)
adj_rib_in s r u = if is_up s.conf r u then map (λ e. (e.0.prefix, e.1)) (routes_from r u s.received) else []

abbrev pub advert_at : Network → Addr → Addr → Prefix → Option (Prefix × Attr)
advert_at s r t p = option_map (λ attr. (p, attr)) (advertised s r t p)

-- the router's Adj-RIB-Out for the peer (RFC 4271, 3.2)
unfoldable pub adj_rib_out : Network → Addr → Addr → List (Prefix × Attr)
adj_rib_out s r t = filter_map (advert_at s r t) (in_order (prefixes_at s r))

-- the messages on their way, the head first; none while the session is down
unfoldable pub queue : Network → Direction → List Message
queue s d = if is_up s.conf d.from d.to then unwrap_or (messages_in s.queues d) [] else []

abbrev pub is_empty : List Message → Bool
is_empty [] = true
is_empty (m ∷ ms) = false

-- no message is on its way
unfoldable pub is_quiet : Network → Bool
is_quiet s = list_all (λ q. is_empty q.messages) s.queues

-- the router's cost to the address, and the address to which it forwards what is for it
unfoldable pub cost_and_hop : Configuration → Addr → Addr → Option (ℕ × Addr)
cost_and_hop c r x = option_and_then (λ n. option_map (λ hop. (n, hop)) (first_hop_in (costs_of c r) x))
    (cost_in (costs_of c r) x)
