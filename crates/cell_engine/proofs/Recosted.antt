-- A cell whose one route an edit gives another cost, and changes in nothing else: decided anew it is the same cell at
-- that cost, and nothing is sent.
use Rattle.std.proofs.Common.{◌≡◌, ℕ, Bool, true, false, cond, not, ◌&&◌, ◌||◌, List, [], ◌∷◌, Option, option_map, Some, None, is_some, is_none, refl, sym, ap, ◌∙◌}
use Rattle.std.proofs.Math.Bool.{beq}
use Rattle.std.proofs.lemmas.Bool.{true≢false}
use Rattle.std.specs.List.{list_any}
use Rattle.std.specs.Option.{option_map_or, option_or, unwrap_or}
use Rattle.std.specs.Ordering.{is_eq, eq_by_cmp}
use Rattle.std.specs.Cmp.{unsigned_Decides, first_so, second_so}
use Rattle.std.specs.FinMap as finite
use Rattle.std.specs.FinMap.Entries.{put}
use Rattle.net_prefix.specs.declared.addr.Addr.{Addr}
use Rattle.net_prefix.specs.Address.{addr_cmp}
use Rattle.net_prefix.specs.Prefix.{Prefix}
use Rattle.path_attr.specs.Attribute.{same_maybe_addr}
use Rattle.path_attr.specs.Path.{holds}
use Rattle.path_attr.specs.declared.attr.Attr.{Attr}
use Rattle.igp_cost.specs.Trees.{Reached, cost_in}
use Rattle.route_policy.specs.Judging.{judged}
use Rattle.net_conf.specs.Facts.{same_facts, with_facts_of}
use Rattle.net_conf.specs.FactLaws.{facts_exact, facts_itself}
use Rattle.net_conf.specs.Sites.{session_with}
use Rattle.net_conf.specs.declared.site.SiteConf.{SiteConf}
use Rattle.net_conf.specs.declared.site.SiteSession.{SiteSession}
use Rattle.route_select.specs.AtCost.{at_cost, lone_at_cost}
use Rattle.route_select.specs.declared.candidate.Candidate.{Candidate}
use Rattle.route_select.specs.declared.candidate.Reason.{Reason}
use Rattle.route_select.specs.declared.candidate.Reason.TheVariants.{Loop, Originator, Cluster, Denied, Unresolved}
use Rattle.route_select.specs.declared.candidate.Source.{Source}
use Rattle.route_select.specs.declared.candidate.Source.TheVariants.{Own, Peer as FromPeer}
use Rattle.route_select.specs.declared.candidate.Standing.{Standing}
use Rattle.route_select.specs.declared.candidate.Standing.TheVariants.{Considered}
use Rattle.route_select.specs.Selection.{source_cmp, Standings, no_standings, with_standing, standing_from, considered_in, best_among, best_of}
use Rattle.route_select.proofs.EntryLemmas.{source_total, map_of_none}
use Rattle.reference_machine.specs.Decision.{own_candidate, is_originated, exclusion, peer_candidate, peer_standing, standing_by, added, has_cluster_loop, is_denial}
use Rattle.cell_engine.specs.Cells.{Cell, IsDecided, effective, route_of, standings_by, standings_of, kept_routes, decision, refreshed}
use Rattle.cell_engine.specs.SiteMoves.{SitePair, is_about_cost, counts_cost, is_route_moved, is_cost_moved, has_route, is_moved}
use Rattle.cell_engine.specs.Recosting.{recosted, lone_cost, is_own, recost}
use Rattle.cell_engine.specs.Updates.{costless}
use Rattle.cell_engine.proofs.Costless.{costs_are_silent}
use Rattle.cell_engine.proofs.Effective.{effective_with, same_standings}
use Rattle.cell_engine.proofs.LoneBest.{best_alone}
use Rattle.cell_engine.proofs.StandingsAfter.{ArePeersInOrder, compares_as, tied, one_addr, peer_found, stood, stood_or, own_stands, peer_stands}

-- ONE ROUTE STANDS

module _ (site : SiteConf) (p : Prefix) (e : Addr × Attr) (x : SiteSession) (found : session_with site e.0 ≡ Some x)
    (up : x.up ≡ true) where
  abbrev alone : Standings
  alone = with_standing (FromPeer e.0) (peer_standing site p x e.1) (no_standings site.med_always)

  at_itself : (u : Addr) → is_eq (addr_cmp u u) ≡ true
  at_itself u = sym (tied u u) ∙ (unsigned_Decides u.0 u.0).1 refl

  -- the sender's route stands as over its session
  sender_stands : stood_or site p (Some x) (route_of (e ∷ [])) None ≡ Some (peer_standing site p x e.1)
  sender_stands =
      let same : is_eq (addr_cmp x.peer e.0) ≡ true =
      ap (λ u. is_eq (addr_cmp u e.0)) (peer_found site.sessions e.0 x found) ∙ at_itself e.0 in
      ap (λ b. option_or (stood site p x (cond b (Some e.1) None)) None) same
      ∙ ap (λ b. option_or (option_map (λ (f : Source × Standing). f.1)
      (cond b (Some (FromPeer x.peer, peer_standing site p x e.1)) None)) None) up

  -- and no other peer's
  others_stand : (o : Option SiteSession) (v : Addr) → session_with site v ≡ o → is_eq (addr_cmp v e.0) ≡ false →
      stood_or site p o (route_of (e ∷ [])) None ≡ None
  others_stand None v is other = refl
  others_stand (Some y) v is other =
      ap (λ b. option_or (stood site p y (cond b (Some e.1) None)) None)
      (ap (λ u. is_eq (addr_cmp u e.0)) (peer_found site.sessions v y is) ∙ other)

  peers_alone : (b : Bool) (v : Addr) → is_eq (addr_cmp v e.0) ≡ b →
      stood_or site p (session_with site v) (route_of (e ∷ [])) None ≡ cond b (Some (peer_standing site p x e.1)) None
  peers_alone true v is =
      ap (λ o. stood_or site p o (route_of (e ∷ [])) None) (ap (session_with site) (one_addr v e.0 is) ∙ found)
      ∙ sender_stands
  peers_alone false v is = others_stand (session_with site v) v refl is

  module _ (peers : ArePeersInOrder site.sessions) (other : is_originated site p ≡ false) where
    stands_at : (q : Source) → standing_from (standings_of site p (e ∷ [])) q ≡ standing_from alone q
    stands_at Own =
        own_stands site p (e ∷ [])
        ∙ ap (λ b. standing_from
        (added (no_standings site.med_always) (cond b ((Own, Considered (own_candidate site.me)) ∷ []) [])) Own)
        other
        ∙ sym (finite.get-insert source_total finite.empty (FromPeer e.0) (peer_standing site p x e.1) Own)
    stands_at (FromPeer v) =
        peer_stands site p (e ∷ []) peers v
        ∙ peers_alone (is_eq (addr_cmp v e.0)) v refl
        ∙ ap (cond (is_eq (addr_cmp v e.0)) (Some (peer_standing site p x e.1)))
        (sym (finite.get-empty source_cmp (FromPeer v)))
        ∙ sym (finite.get-insert source_total finite.empty (FromPeer e.0) (peer_standing site p x e.1) (FromPeer v))

    -- what stands where one route was received, over a session that is up
    stands_alone : standings_of site p (e ∷ []) ≡ alone
    stands_alone =
        ap effective (same_standings (standings_by site p (e ∷ [])) alone stands_at (compares_as site p (e ∷ [])))
        ∙ effective_with (FromPeer e.0) (peer_standing site p x e.1) (no_standings site.med_always)

-- AT A COST

abbrev lone : Bool → Addr → Candidate → Standings
lone always u c = with_standing (FromPeer u) (Considered c) (no_standings always)

entries_of_lone : (always : Bool) (u : Addr) (c : Candidate) →
    finite.entries (lone always u c).known ≡ (FromPeer u, Considered c) ∷ []
entries_of_lone always u c =
    finite.entries-insert source_total finite.empty (FromPeer u) (Considered c)
    ∙ ap (put source_cmp (FromPeer u) (Considered c)) (ap finite.entries (sym map_of_none)
    ∙ finite.entries-from_sorted source_cmp [] tt)

best_of_lone : (always : Bool) (u : Addr) (c : Candidate) → best_of (lone always u c) ≡ Some c
best_of_lone always u c = ap (λ es. best_among always (considered_in es)) (entries_of_lone always u c)
    ∙ best_alone always c

put_again : (always : Bool) (u : Addr) (c d : Candidate) →
    with_standing (FromPeer u) (Considered d) (lone always u c) ≡ lone always u d
put_again always u c d = same_standings (with_standing (FromPeer u) (Considered d) (lone always u c))
    (lone always u d) (λ q.
    finite.get-insert source_total (lone always u c).known (FromPeer u) (Considered d) q
    ∙ ap (cond (eq_by_cmp source_cmp q (FromPeer u)) (Some (Considered d)))
    (finite.get-insert source_total finite.empty (FromPeer u) (Considered c) q)
    ∙ shadowed (eq_by_cmp source_cmp q (FromPeer u)) (Some (Considered d)) (Some (Considered c))
    (finite.get finite.empty q)
    ∙ sym (finite.get-insert source_total finite.empty (FromPeer u) (Considered d) q)) refl
  where
    shadowed : (b : Bool) (v w z : Option Standing) → cond b v (cond b w z) ≡ cond b v z
    shadowed true v w z = refl
    shadowed false v w z = refl

lone_costs : (k : ℕ) (always : Bool) (u : Addr) (c : Candidate) →
    at_cost k (lone always u c) ≡ lone always u (record c { cost = k })
lone_costs k always u c =
    (λ i. record { known = lone_at_cost k (lone always u c).known (entries_of_lone always u c i); med_always = always })
    ∙ put_again always u c (record c { cost = k })

-- THE COST ALONE DECIDES

-- the tests before that of the NEXT_HOP, and the cost to it
abbrev excluded : Bool → Bool → Bool → Bool → Option ℕ → Option Reason
excluded a b c d o = cond a (Some Loop)
    (cond b (Some Originator) (cond c (Some Cluster) (cond d (Some Denied) (cond (is_none o) (Some Unresolved) None))))

-- where they leave the decision to the cost, and there is one, the route is considered
kept_by : (a b c d : Bool) (m : ℕ) → is_about_cost (excluded a b c d (Some m)) ≡ true → excluded a b c d (Some m) ≡ None
kept_by true b c d m h = absurd (true≢false (sym h))
kept_by false true c d m h = absurd (true≢false (sym h))
kept_by false false true d m h = absurd (true≢false (sym h))
kept_by false false false true m h = absurd (true≢false (sym h))
kept_by false false false false m h = refl

module _ (site : SiteConf) (p : Prefix) (x : SiteSession) (attr : Attr) where
  abbrev loops : Bool
  loops = holds site.asn attr.path

  abbrev originates : Bool
  originates = same_maybe_addr attr.oid (Some site.me)

  abbrev clusters : Bool
  clusters = has_cluster_loop site attr

  abbrev denied : Bool
  denied = is_denial (judged x.policy_in p attr)

  abbrev tested : Option ℕ → Option Reason
  tested o = excluded loops originates clusters denied o

  abbrev at : ℕ → Candidate
  at m = record (peer_candidate site x (judged x.policy_in p attr) attr) { cost = m }

  is_considered : (m : ℕ) → cost_in site.costs attr.next ≡ Some m → is_about_cost (tested (Some m)) ≡ true →
      peer_standing site p x attr ≡ Considered (at m)
  is_considered m has about =
      ap (λ o. standing_by (tested o) (at (unwrap_or o 0))) has
      ∙ ap (λ r. standing_by r (at m)) (kept_by loops originates clusters denied m about)

-- BEFORE AND AFTER

-- decided anew, the cell is the same at this cost, and nothing is sent
abbrev IsSilent : SiteConf → SiteConf → Prefix → ℕ → Cell → Type 0
IsSilent old new p k h = refreshed old new p h ≡ record { cell = recosted k h; sends = [] }

-- the cell with one route
abbrev holding : Addr × Attr → Standings → Cell
holding e w = record { received = e ∷ []; standings = w }

module _ (s : SiteConf) (os : List Prefix) (n : Reached) (p : Prefix) (peers : ArePeersInOrder s.sessions) where
  abbrev t : SiteConf
  t = with_facts_of s os n

  module _ (e : Addr × Attr) (x : SiteSession) (m k : ℕ) (found : session_with s e.0 ≡ Some x) (up : x.up ≡ true)
      (was : cost_in s.costs e.1.next ≡ Some m) (is : cost_in n e.1.next ≡ Some k) (before : is_originated s p ≡ false)
      (after : is_originated t p ≡ false) (about : is_about_cost (exclusion s (judged x.policy_in p e.1) e.1)
      ≡ true) where
    with_cost_known : is_about_cost (tested s p x e.1 (Some m)) ≡ true
    with_cost_known = ap (λ o. is_about_cost (tested s p x e.1 o)) (sym was) ∙ about

    stood_then : standings_of s p (e ∷ []) ≡ lone s.med_always e.0 (at s p x e.1 m)
    stood_then = stands_alone s p e x found up peers before
        ∙ ap (λ v. with_standing (FromPeer e.0) v (no_standings s.med_always))
        (is_considered s p x e.1 m was with_cost_known)

    stand_now : standings_of t p (e ∷ []) ≡ lone s.med_always e.0 (at s p x e.1 k)
    stand_now = stands_alone t p e x found up peers after
        ∙ ap (λ v. with_standing (FromPeer e.0) v (no_standings s.med_always))
        (is_considered t p x e.1 k is with_cost_known)

    costs_k : standings_of t p (e ∷ []) ≡ at_cost k (standings_of s p (e ∷ []))
    costs_k = stand_now ∙ sym (lone_costs k s.med_always e.0 (at s p x e.1 m)) ∙ ap (at_cost k) (sym stood_then)

    same_best : costless (best_of (standings_of s p (e ∷ []))) ≡ costless (best_of (standings_of t p (e ∷ [])))
    same_best =
        ap (λ w. costless (best_of w)) stood_then
        ∙ ap costless (best_of_lone s.med_always e.0 (at s p x e.1 m))
        ∙ sym (ap (λ w. costless (best_of w)) stand_now ∙ ap costless (best_of_lone s.med_always e.0 (at s p x e.1 k)))

    is_kept : kept_routes t (e ∷ []) ≡ e ∷ []
    is_kept = ap (λ o. cond (option_map_or (λ y. y.up) o false) (e ∷ []) []) found ∙ ap (λ b. cond b (e ∷ []) []) up

    alone_refreshed : (w : Standings) → w ≡ standings_of s p (e ∷ []) → IsSilent s t p k (holding e w)
    unfolding refreshed
    alone_refreshed w decided =
        ap (λ es. decision s t p (holding e w) (record { received = es; standings = standings_of t p es })) is_kept
        ∙ ap (λ v. decision s t p (holding e v) (holding e (standings_of t p (e ∷ [])))) decided
        ∙ (λ i. record {
          cell = holding e ((costs_k ∙ ap (at_cost k) (sym decided)) i);
          sends = costs_are_silent s t p _ _ (facts_itself s os n) same_best peers i;
        })

  -- the session that the route came over is there, and up
  over_session : (o : Option SiteSession) (e : Addr × Attr) (m k : ℕ) (w : Standings) → session_with s e.0 ≡ o →
      option_map_or (counts_cost s p e.1) o false ≡ true → cost_in s.costs e.1.next ≡ Some m →
      cost_in n e.1.next ≡ Some k → is_originated s p ≡ false → is_originated t p ≡ false →
      w ≡ standings_of s p (e ∷ []) → IsSilent s t p k (holding e w)
  over_session None e m k w found counts was is before after decided = absurd (true≢false (sym counts))
  over_session (Some x) e m k w found counts was is before after decided =
      let about : Bool = is_about_cost (exclusion s (judged x.policy_in p e.1) e.1) in
      alone_refreshed e x m k found (first_so x.up about counts) was is before after
      (second_so x.up about counts) w decided

-- WHAT THE TESTS SAY

none_some : (k : ℕ) → None ≡ Some k → ⊥
none_some k h = absurd (cc)

told_by : (alike own : Bool) (o : Option ℕ) (k : ℕ) → cond (alike && not own) o None ≡ Some k → (alike ≡ true)
    × (own ≡ false) × (o ≡ Some k)
told_by true false o k h = (refl, refl, h)
told_by true true o k h = absurd (none_some k h)
told_by false own o k h = absurd (none_some k h)

neither : (a b : Bool) → (a || b) ≡ false → (a ≡ false) × (b ≡ false)
neither true b h = absurd (true≢false h)
neither false b h = (refl, h)

either_none : (a : Bool) → (a || false) ≡ true → a ≡ true
either_none true h = refl
either_none false h = h

before_too : (o : Option ℕ) (l : Option ℕ) (k : ℕ) → cond (is_some o) l None ≡ Some k → (m : ℕ)
    × (o ≡ Some m) × (l ≡ Some k)
before_too None l k h = absurd (none_some k h)
before_too (Some m) l k h = (m, refl, h)

module _ (s : SitePair) (p : Prefix) (k : ℕ) (alike : same_facts s.old s.new ≡ true) (before : is_originated s.old p
    ≡ false) (after : is_originated s.new p ≡ false) where
  moved_alone : (e : Addr × Attr) → is_moved s p (e ∷ []) ≡ true →
      option_map_or (counts_cost s.old p e.1) (session_with s.old e.0) false ≡ true
  moved_alone e moved =
      let route : (is_route_moved s p e || false) ≡ true =
      sym (λ i. cond (alike i) (not (beq (before i) (after i)) || list_any (is_route_moved s p) (e ∷ []))
      (has_route s.old p (e ∷ []) || is_originated s.new p)) ∙ moved in
      second_so (is_cost_moved s e.1) (option_map_or (counts_cost s.old p e.1) (session_with s.old e.0) false)
      (either_none (is_route_moved s p e) route)

  lone_recosted : (routes : List (Addr × Attr)) (w : Standings) → w ≡ standings_of s.old p routes →
      ArePeersInOrder s.old.sessions → is_moved s p routes ≡ true → lone_cost s routes ≡ Some k →
      IsSilent s.old s.new p k (record { received = routes; standings = w })
  lone_recosted [] w decided peers moved cost = absurd (none_some k cost)
  lone_recosted (e ∷ f ∷ es) w decided peers moved cost = absurd (none_some k cost)
  lone_recosted (e ∷ []) w decided peers moved cost =
      let known = before_too (cost_in s.old.costs e.1.next) (cost_in s.new.costs e.1.next) k cost in
      ap (λ u. refreshed s.old u p (holding e w)) (facts_exact s.old s.new alike)
      ∙ over_session s.old s.new.origins s.new.costs p peers (session_with s.old e.0) e known.0 k w refl
      (moved_alone e moved) known.1 known.2 before after decided

-- where the edit moves the cell, and leaves it its one route at this cost
pub recosted_alone : (s : SitePair) (p : Prefix) (h : Cell) (k : ℕ) → IsDecided (Some s.old) p h →
    ArePeersInOrder s.old.sessions → is_moved s p h.received ≡ true → recost s p h.received ≡ Some k →
    refreshed s.old s.new p h ≡ record { cell = recosted k h; sends = [] }
recosted_alone s p h k decided peers moved cost =
    let told = told_by (same_facts s.old s.new) (is_own s p) (lone_cost s h.received) k cost in
    let own = neither (is_originated s.old p) (is_originated s.new p) told.1 in
    lone_recosted s p k told.0 own.0 own.1 h.received h.standings (ap (λ c. c.standings) decided) peers moved told.2
