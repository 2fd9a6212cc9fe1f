-- The way of what a router forwards (RFC 4271, 9.1.2.1 and 9.1.4: by the longest prefix that matches).
use Rattle.std.specs.Prelude.{◌≡◌, ℕ, zero, suc, Bool, true, false, ◌&&◌, nat_lt, List, [], ◌∷◌, ◌++◌, filter, fold, length, Option, Some, None, is_some, if◌then◌else◌}
use Rattle.std.specs.List.{list_any}
use Rattle.net_prefix.specs.declared.addr.Addr.{Addr}
use Rattle.net_prefix.specs.Address.{same_addr}
use Rattle.net_prefix.specs.Prefix.{Prefix, Contains}
use Rattle.net_prefix.specs.Tests.{contains}
use Rattle.net_prefix.specs.LongestMatch.{IsLongest, HasNone}
use Rattle.igp_cost.specs.Trees.{Reached as Costs, first_hop_in}
use Rattle.net_conf.specs.Configuration.{is_virtual}
use Rattle.net_conf.specs.Costs.{costs_of}
use Rattle.route_select.specs.declared.candidate.Candidate.{Candidate}
use Rattle.route_select.specs.Selection.{is_own}
use Rattle.sim_event.specs.declared.reply.TraceEnd.{TraceEnd}
use Rattle.sim_event.specs.declared.reply.TraceEnd.TheVariants.{Reached, NoRoute, Loop}
use Rattle.reference_machine.specs.declared.tracing.Look.{Look}
use Rattle.reference_machine.specs.declared.tracing.Look.TheVariants.{Ends, Forwards}
use Rattle.reference_machine.specs.declared.tracing.Traced.{Traced}
use Rattle.reference_machine.specs.Network.{Network}
use Rattle.reference_machine.specs.Decision.{best}
use Rattle.reference_machine.specs.Advertising.{prefixes_at, in_order}

-- the longer of a prefix and one that may be missing
abbrev pub longer : Option Prefix → Prefix → Option Prefix
longer None p = Some p
longer (Some q) p = if nat_lt q.len p.len then Some p else Some q

abbrev pub longest : List Prefix → Option Prefix
longest ps = fold longer None ps

-- the prefix contains the address, and the router has chosen a route for it
abbrev pub forwards_by : Network → Addr → Addr → Prefix → Bool
forwards_by s r d p = contains p d && is_some (best s r p)

-- the longest prefix that contains the address and has a chosen route at the router
unfoldable pub longest_match : Network → Addr → Addr → Option Prefix
longest_match s r d = longest (filter (forwards_by s r d) (in_order (prefixes_at s r)))

-- what `forwards_by` tests: the prefix contains the address, and the router has chosen a route for it
pub record IsMatch (s : Network) (r d : Addr) (p : Prefix) : Type 0 where
  pub contains : Contains p d
  pub chosen : is_some (best s r p) ≡ true

-- the longest of all such prefixes (RFC 4271, 9.1.4); and where there is none, None
abbrev pub IsLongestMatch : Network → Addr → Addr → Option Prefix → Type 0
IsLongestMatch s r d None = HasNone (IsMatch s r d)
IsLongestMatch s r d (Some p) = IsLongest (IsMatch s r d) p

-- the longest match is that
abbrev pub LongestMatchLaw : Type 0
LongestMatchLaw = (s : Network) (r d : Addr) → IsLongestMatch s r d (longest_match s r d)

abbrev pub has_passed : Addr → List (Addr × Prefix) → Bool
has_passed r hops = list_any (λ h. same_addr h.0 r) hops

-- over the first hop towards the NEXT_HOP; there is one (OnwardLaw, below), so the first case is never reached
abbrev pub onward : Addr → Prefix → Option Addr → Look
onward r p None = Ends (NoRoute r)
onward r p (Some h) = Forwards p h

-- by the chosen route: a router's own prefix is reached
abbrev pub by_route : Costs → Addr → Prefix → Option Candidate → Look
by_route costs r p None = Ends (NoRoute r)
by_route costs r p (Some b) = if is_own b.source then Ends (Reached r) else onward r p (first_hop_in costs b.attr.next)

-- by the longest prefix that matches
abbrev pub by_prefix : Network → Addr → Option Prefix → Look
by_prefix s r None = Ends (NoRoute r)
by_prefix s r (Some p) = by_route (costs_of s.conf r) r p (best s r p)

-- what becomes of it at r, where it came over the hops: a router that has forwarded it before is a loop, a virtual peer
-- is reached (both own), and another router looks up the address
unfoldable pub look : Network → Addr → List (Addr × Prefix) → Addr → Look
look s d hops r =
    if has_passed r hops then Ends (Loop r)
    else if is_virtual s.conf r then Ends (Reached r)
    else by_prefix s r (longest_match s r d)

-- a route that a router has chosen, and that is not its own, has a first hop towards its NEXT_HOP: what has none is
-- excluded
abbrev pub OnwardLaw : Type 0
OnwardLaw = (s : Network) (r : Addr) (p : Prefix) (b : Candidate) → best s r p ≡ Some b → is_own b.source ≡ false →
    is_some (first_hop_in (costs_of s.conf r) b.attr.next) ≡ true

-- the hops from r on, where it came over those passed, and how they end: each router forwards by the prefix to the next
-- one, and where it comes to after the last, it ends
abbrev pub IsTrace : Network → Addr → List (Addr × Prefix) → Addr → List (Addr × Prefix) → TraceEnd → Type 0
IsTrace s d passed r [] ending = look s d passed r ≡ Ends ending
IsTrace s d passed r ((q, p) ∷ hops) ending = (q ≡ r) × (next : Addr) × (look s d passed r ≡ Forwards p next)
    × IsTrace s d (passed ++ (q, p) ∷ []) next hops ending

abbrev pub ended : List (Addr × Prefix) → TraceEnd → Traced
ended hops ending = record { hops = hops; ending = ending }

abbrev pub after_look : (List (Addr × Prefix) → Addr → Traced) → List (Addr × Prefix) → Addr → Look → Traced
after_look next hops r (Ends ending) = ended hops ending
after_look next hops r (Forwards p h) = next (hops ++ (r, p) ∷ []) h

-- from r on, where it came over the hops, with at most n looks; a trace ends within its looks, so its first case is
-- never reached
unfoldable pub trace_from : ℕ → Network → Addr → List (Addr × Prefix) → Addr → Traced
trace_from zero s d hops r = ended hops (Loop r)
trace_from (suc n) s d hops r = after_look (trace_from n s d) hops r (look s d hops r)

-- the way from the router of what is for the address: no router forwards twice, so one look more than there are routers
-- and peers is enough
unfoldable pub trace : Network → Addr → Addr → Traced
trace s r d = trace_from (suc (length s.conf.nodes)) s d [] r

-- what it gives is a trace: it ends at the last look, or before
abbrev pub TraceLaw : Type 0
TraceLaw = (s : Network) (r d : Addr) → IsTrace s d [] r (trace s r d).hops (trace s r d).ending

-- and the only one
abbrev pub OneTraceLaw : Type 0
OneTraceLaw = (s : Network) (r d : Addr) (hops : List (Addr × Prefix)) (ending : TraceEnd) →
    IsTrace s d [] r hops ending → ended hops ending ≡ trace s r d
