-- Laws of routes: of each that came over a session, received or still on its way, and of those among which a router
-- chooses.
use Rattle.std.specs.Prelude.{◌≡◌, ◌⊎◌, ◌==◌, ℕ, true, false, List, [], ◌∷◌, All, Contains, Some, unwrap_or, ⊤}
use Rattle.net_prefix.specs.declared.addr.Addr.{Addr}
use Rattle.net_prefix.specs.Prefix.{Prefix}
use Rattle.path_attr.specs.declared.attr.Attr.{Attr}
use Rattle.path_attr.specs.Path.{neighbour, holds}
use Rattle.session_queue.specs.declared.message.Message.{Message}
use Rattle.session_queue.specs.declared.message.Message.TheVariants.{Update, Withdraw}
use Rattle.route_select.specs.declared.candidate.Source.TheVariants.{Own}
use Rattle.route_select.specs.declared.candidate.Candidate.{Candidate}
use Rattle.route_select.specs.Selection.{same_neighbour, considered, filters, left_by_all}
use Rattle.route_select.specs.Laws.{AreFromTheirSources}
use Rattle.net_conf.specs.declared.site.SiteConf.{SiteConf}
use Rattle.net_conf.specs.Configuration.{Configuration, has_node, has_session, as_of, is_external}
use Rattle.net_conf.specs.Sites.{site_of}
use Rattle.sim_event.specs.declared.event.Event.{Event}
use Rattle.sim_event.specs.declared.reply.Reply.{Reply}
use Rattle.reference_machine.specs.declared.rows.RouteKey.{RouteKey}
use Rattle.reference_machine.specs.Network.{Network}
use Rattle.reference_machine.specs.Decision.{standings, best}
use Rattle.reference_machine.specs.Machine.{nothing, IsRun}

-- what an update says has P; a withdrawal has no route
abbrev pub OfUpdate : (Attr → Type 0) → Message → Type 0
OfUpdate P (Update p attr) = P attr
OfUpdate P (Withdraw p) = ⊤

-- P holds, by its sender and its receiver, of each route that was received, and of each that is on its way
pub record EachRoute (s : Network) (P : Addr → Addr → Attr → Type 0) : Type 0 where
  pub received : All (λ e. P e.0.from e.0.to e.1) s.received
  pub on_way : All (λ q. All (OfUpdate (P q.of.from q.of.to)) q.messages) s.queues

-- AS PATHS

-- from another AS the path begins with a sequence whose first number is the sender's AS, so it is not empty; inside an
-- AS it is empty, or begins with a sequence, and that AS does not stand in it
pub record HasSendersPath (c : Configuration) (from to : Addr) (attr : Attr) : Type 0 where
  pub outside : is_external c from to ≡ true → (n : ℕ) × (as_of c from ≡ Some n) × (neighbour attr.path ≡ Some n)
  pub inside : is_external c from to ≡ false → (attr.path ≡ []) ⊎ ((n : ℕ) × (neighbour attr.path ≡ Some n))
  pub clear : is_external c from to ≡ false → (n : ℕ) → as_of c to ≡ Some n → holds n attr.path ≡ false

-- after any run, so it is of each route that came over a session (RFC 4271, 5.1.2, 6.3 and 9.1.2): no path begins with
-- a set
abbrev pub SendersPathLaw : Type 0
SendersPathLaw = (es : List Event) (rs : List Reply) (s : Network) → IsRun nothing es rs s →
    EachRoute s (HasSendersPath s.conf)

-- the neighbouring AS of a route, which is the router's own where the path has none (RFC 4271, 9.1.2.2 c)
abbrev pub neighbour_or : ℕ → Candidate → ℕ
neighbour_or asn m = unwrap_or (neighbour m.attr.path) asn

-- of two routes that a router considers, whatever it has received, these are the same just where `same_neighbour` says
-- so
abbrev pub NeighbourLaw : Type 0
NeighbourLaw = (site : SiteConf) (p : Prefix) (es : List (RouteKey × Attr)) (m n : Candidate) →
    Contains (considered (standings site p es)) m → Contains (considered (standings site p es)) n →
    (neighbour_or site.asn m == neighbour_or site.asn n) ≡ same_neighbour m n

-- NEXT_HOP

-- the router that put the route into the receiver's AS: its ORIGINATOR_ID, and the sender where it has none (RFC 4456,
-- 8)
abbrev pub originator : Addr → Attr → Addr
originator from attr = unwrap_or attr.oid from

-- w put the route into the AS of the receiver with this NEXT_HOP: itself, or a peer of its own in another AS
pub record IsPutBy (c : Configuration) (w to next : Addr) : Type 0 where
  pub there : has_node c w ≡ true
  pub inside : is_external c w to ≡ false
  pub next_hop : (next ≡ w) ⊎ ((has_session c w next ≡ true) × (is_external c w next ≡ true))

-- from another AS the NEXT_HOP is the sender; inside an AS it is as its originator put it there
pub record HasNextHop (c : Configuration) (from to : Addr) (attr : Attr) : Type 0 where
  pub outside : is_external c from to ≡ true → attr.next ≡ from
  pub inside : is_external c from to ≡ false → IsPutBy c (originator from attr) to attr.next

-- after any run, so it is of each route that came over a session (RFC 4271, 5.1.3)
abbrev pub NextHopLaw : Type 0
NextHopLaw = (es : List Event) (rs : List Reply) (s : Network) → IsRun nothing es rs s → EachRoute s (HasNextHop s.conf)

-- a route with its receiver as NEXT_HOP has it as ORIGINATOR_ID too
abbrev pub ComesBack : Addr → Addr → Attr → Type 0
ComesBack from to attr = attr.next ≡ to → attr.oid ≡ Some to

-- so, after any run, a router that gets a route with itself as NEXT_HOP is its originator: it is excluded for that (RFC
-- 4456, 8)
abbrev pub OwnNextHopLaw : Type 0
OwnNextHopLaw = (es : List Event) (rs : List Reply) (s : Network) → IsRun nothing es rs s → EachRoute s ComesBack

-- and no router chooses a route with itself as NEXT_HOP that is not its own (RFC 4271, 5.1.3)
abbrev pub NoLoopLaw : Type 0
NoLoopLaw = (es : List Event) (rs : List Reply) (s : Network) → IsRun nothing es rs s →
    (r : Addr) (p : Prefix) (b : Candidate) → best s r p ≡ Some b → b.attr.next ≡ r → b.source ≡ Own

-- ONE CHOICE

-- whatever a router has received, each route that it considers is its source's own
abbrev pub EachHasItsSource : Type 0
EachHasItsSource = (site : SiteConf) (p : Prefix) (es : List (RouteKey × Attr)) →
    AreFromTheirSources (standings site p es)

-- so where a router considers any route, the nine filters leave exactly one, and that is its choice (RFC 4271, 9.1.2.2)
abbrev pub OneIsChosen : Type 0
OneIsChosen = (s : Network) (r : Addr) (p : Prefix) (site : SiteConf) → site_of s.conf r ≡ Some site → (m : Candidate) →
    Contains (considered (standings site p s.received)) m → (b : Candidate) × (best s r p ≡ Some b)
    × (left_by_all site.med_always filters (considered (standings site p s.received)) ≡ b ∷ [])
