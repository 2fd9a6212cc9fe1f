-- A cell that an edit can change is touched: a route stands otherwise, or one stands and the router's settings or
-- sessions become other.
use Rattle.std.proofs.Common.{◌≡◌, ◌⊎◌, inl, inr, ℕ, Bool, true, false, cond, not, ◌||◌, List, [], ◌∷◌, Option, Some, None, unwrap_or, if◌then◌else◌, refl, sym, ap, subst, ◌∙◌}
use Rattle.std.proofs.Math.Bool.{beq}
use Rattle.std.proofs.lemmas.Bool.{true≢false, and_parts}
use Rattle.std.proofs.lemmas.Option.{none-some, same_Some}
use Rattle.std.specs.Ordering.{is_eq, ordering_reverse}
use Rattle.std.specs.declared.cmp.Ordering.TheVariants.{Less}
use Rattle.std.specs.Cmp.{unsigned_Decides, tied_itself}
use Rattle.std.specs.Option.{option_map_or}
use Rattle.std.specs.List.{AllByRecursion, list_any}
use Rattle.std.specs.List.Sorted.{IsStrictlySortedBy}
use Rattle.std.specs.Map.{keys_of}
use Rattle.std.specs.BTreeMap.{is_at}
use Rattle.std.specs.FinMap as finite
use Rattle.net_prefix.specs.declared.addr.Addr.{Addr}
use Rattle.net_prefix.specs.Address.{addr_cmp}
use Rattle.net_prefix.specs.Orders.{addr_total}
use Rattle.net_prefix.specs.Prefix.{Prefix}
use Rattle.path_attr.specs.Number.{same_number}
use Rattle.path_attr.specs.Path.{holds}
use Rattle.path_attr.specs.Attribute.{same_maybe_addr}
use Rattle.path_attr.specs.declared.attr.Attr.{Attr}
use Rattle.igp_cost.specs.Trees.{Reached, cost_in}
use Rattle.route_policy.specs.Judging.{judged}
use Rattle.net_conf.specs.Configuration.{Configuration}
use Rattle.net_conf.specs.Configured.{IsConfigured}
use Rattle.net_conf.specs.Costs.{is_up}
use Rattle.net_conf.specs.Facts.{same_facts}
use Rattle.net_conf.specs.FactLaws.{facts_exact}
use Rattle.net_conf.specs.RouterSites.{router_site}
use Rattle.net_conf.specs.Sites.{session_with}
use Rattle.net_conf.specs.declared.site.SiteConf.{SiteConf}
use Rattle.net_conf.specs.declared.site.SiteSession.{SiteSession}
use Rattle.net_conf.proofs.RouterLaws.{site_sessions_in_order}
use Rattle.route_select.specs.Selection.{Standings, source_cmp, no_standings, standing_from}
use Rattle.route_select.specs.declared.candidate.Candidate.{Candidate}
use Rattle.route_select.specs.declared.candidate.Source.TheVariants.{Own, Peer as FromPeer}
use Rattle.route_select.specs.declared.candidate.Standing.{Standing}
use Rattle.route_select.specs.declared.candidate.Standing.TheVariants.{Excluded, Considered}
use Rattle.reference_machine.specs.Decision.{own_candidate, is_originated, has_cluster_loop, is_denial, standing_by, exclusion, peer_standing}
use Rattle.cell_engine.specs.Cells.{Cell, is_any, route_of, standings_of, decided, is_up_in}
use Rattle.cell_engine.specs.SiteMoves.{is_about_cost, counts_cost, is_cost_moved, is_route_moved, is_own_moved, has_route}
use Rattle.cell_engine.proofs.StandingsAfter.{ArePeersInOrder, one_addr, peer_found}
use Rattle.cell_engine.specs.Decisions.{AreFactsMoved}
use Rattle.cell_engine.specs.Keeping.{kept_from, kept_cell}
use Rattle.cell_engine.specs.Moves.{is_moved_by, moves}
use Rattle.cell_engine.proofs.Decisions.{own_standing, peer_has_standing, some_stands, differ_at}
use Rattle.cell_engine.proofs.Moves.{excluded, new, pair, stands}
use Rattle.cell_engine.proofs.OverSessions.{all_pass}
use Rattle.cell_engine.proofs.Sites.{site_of_router, up_in_site, up_either, kept_routes_is}

-- A ROUTE THAT PASSES A TEST

key_after : (k : Addr) (es : List (Addr × Attr)) → AllByRecursion (λ a. addr_cmp k a ≡ Less) (keys_of es) →
    (u : Addr) (attr : Attr) → route_of es u ≡ Some attr → addr_cmp u k ≡ ordering_reverse Less
key_after k [] all u attr at = absurd (none-some attr at)
key_after k (e ∷ es) all u attr at = by (is_at (addr_cmp u) e.0) refl at (key_after k es all.1 u attr)
  where
    by : (here : Bool) → is_at (addr_cmp u) e.0 ≡ here → cond here (Some e.1) (route_of es u) ≡ Some attr →
        (route_of es u ≡ Some attr → addr_cmp u k ≡ ordering_reverse Less) → addr_cmp u k ≡ ordering_reverse Less
    by true is found later =
        let same : u ≡ e.0 = one_addr u e.0 is in
        addr_total.antisymm u k ∙ ap ordering_reverse (ap (addr_cmp k) same ∙ all.0)
    by false is found later = later found

-- one of these, found by its sender, that passes
record Passing (f : Addr × Attr → Bool) (routes : List (Addr × Attr)) : Type 0 where
  from : Addr
  attr : Attr
  found : route_of routes from ≡ Some attr
  passes : f (from, attr) ≡ true

one_passes : (f : Addr × Attr → Bool) (routes : List (Addr × Attr)) → IsStrictlySortedBy addr_cmp (keys_of routes) →
    list_any f routes ≡ true → Passing f routes
unfolding IsStrictlySortedBy
one_passes f [] sorted any = absurd (true≢false (sym any))
one_passes f (e ∷ es) sorted any = by (f e) refl any (one_passes f es sorted.1)
  where
    by : (here : Bool) → f e ≡ here → (here || list_any f es) ≡ true → (list_any f es ≡ true → Passing f es) →
        Passing f (e ∷ es)
    by true is one later = record {
      from = e.0;
      attr = e.1;
      found = ap (λ o. cond (is_eq o) (Some e.1) (route_of es e.0)) (tied_itself addr_total e.0);
      passes = is;
    }
    by false is one later =
        let rest = later one in
        record {
          from = rest.from;
          attr = rest.attr;
          found = ap (λ o. cond (is_eq o) (Some e.1) (route_of es rest.from))
              (key_after e.0 es sorted.0 rest.from rest.attr rest.found) ∙ rest.found;
          passes = rest.passes;
        }

-- A COST THAT COUNTS

cost_of : Standing → Option ℕ
cost_of (Excluded reason) = None
cost_of (Considered x) = Some x.cost

-- the route would stand otherwise
apart_by : (loops returns again denied : Bool) (n m : Option ℕ) (x y : Candidate) → x.cost ≡ unwrap_or n 0 →
    y.cost ≡ unwrap_or m 0 → is_about_cost (excluded loops returns again denied n) ≡ true →
    not (same_number n m) ≡ true → standing_by (excluded loops returns again denied n) x
    ≡ standing_by (excluded loops returns again denied m) y → ⊥
unfolding cost_of
apart_by true returns again denied n m x y at at' about moved same = true≢false (sym about)
apart_by false true again denied n m x y at at' about moved same = true≢false (sym about)
apart_by false false true denied n m x y at at' about moved same = true≢false (sym about)
apart_by false false false true n m x y at at' about moved same = true≢false (sym about)
apart_by false false false false None None x y at at' about moved same = true≢false (sym moved)
apart_by false false false false None (Some m) x y at at' about moved same = none-some y.cost (ap cost_of same)
apart_by false false false false (Some n) None x y at at' about moved same = none-some x.cost (sym (ap cost_of same))
apart_by false false false false (Some n) (Some m) x y at at' about moved same =
    let one : n ≡ m = sym at ∙ same_Some x.cost y.cost (ap cost_of same) ∙ at' in
    true≢false (sym moved ∙ ap not ((unsigned_Decides n m).1 one))

module _ (s : SiteConf) (os : List Prefix) (k : Reached) (p : Prefix) (x : SiteSession) (attr : Attr) where
  abbrev stood_then : Option ℕ → Standing
  stood_then n = stands s os k p x attr n

  -- where the cost to its NEXT_HOP counts for a route, and becomes another
  restood : is_about_cost (exclusion s (judged x.policy_in p attr) attr) ≡ true →
      is_cost_moved (pair s os k p) attr ≡ true → peer_standing s p x attr ≡ peer_standing (new s os k p) p x attr → ⊥
  restood about moved same =
      apart_by (holds s.asn attr.path) (same_maybe_addr attr.oid (Some s.me)) (has_cluster_loop s attr)
      (is_denial (judged x.policy_in p attr)) (cost_in s.costs attr.next)
      (cost_in k attr.next) _ _ refl refl about moved same

-- THE CELL

module _ (c d : Configuration) (configured : IsConfigured c) (r : Addr) (p : Prefix) (h : Cell)
    (senders : IsStrictlySortedBy addr_cmp (keys_of h.received)) (kept : kept_from c r h.received ≡ h.received)
    (was : h ≡ decided (router_site c r) p h.received) where
  abbrev pub after : Standings
  after = (kept_cell d r p h).standings

  -- a route stands otherwise, or one stands before or after, and the router's settings or sessions become other
  abbrev pub Touches : Type 0
  Touches = (h.standings ≡ after → ⊥)
      ⊎ (AreFactsMoved (router_site c r) (router_site d r)
      × ((h.standings ≡ no_standings false → ⊥) ⊎ (after ≡ no_standings false → ⊥)))

  stood_at : (s : SiteConf) → router_site c r ≡ Some s → h.standings ≡ standings_of s p h.received
  stood_at s at = ap (λ (x : Cell). x.standings) (was ∙ ap (λ o. decided o p h.received) at)

  stands_at : (t : SiteConf) → router_site d r ≡ Some t → after ≡ standings_of t p (kept_from d r h.received)
  stands_at t at' = ap (λ o. (decided o p (kept_from d r h.received)).standings) at'

  own_before : (s : SiteConf) → router_site c r ≡ Some s →
      standing_from h.standings Own ≡ cond (is_originated s p) (Some (Considered (own_candidate s.me))) None
  own_before s at = ap (λ m. standing_from m Own) (stood_at s at) ∙ own_standing s p h.received

  own_after : (t : SiteConf) → router_site d r ≡ Some t →
      standing_from after Own ≡ cond (is_originated t p) (Some (Considered (own_candidate t.me))) None
  own_after t at' = ap (λ m. standing_from m Own) (stands_at t at') ∙ own_standing t p (kept_from d r h.received)

  -- the session of a site with a peer with which it is up
  record UpWith (s : SiteConf) (u : Addr) : Type 0 where
    session : SiteSession
    found : session_with s u ≡ Some session
    up : session.up ≡ true

  up_with : (s : SiteConf) (u : Addr) → is_up_in s u ≡ true → UpWith s u
  up_with s u is = by (session_with s u) refl is
    where
      by : (o : Option SiteSession) → session_with s u ≡ o → option_map_or (λ x. x.up) o false ≡ true → UpWith s u
      by None found up = absurd (true≢false (sym up))
      by (Some x) found up = record { session = x; found = found; up = up }

  peers_of_site : (s : SiteConf) → router_site c r ≡ Some s → ArePeersInOrder s.sessions
  peers_of_site s at = site_sessions_in_order c r s configured (site_of_router c r s at)

  -- a route that was received stands
  received_stands : (s : SiteConf) → router_site c r ≡ Some s → is_any h.received ≡ true →
      h.standings ≡ no_standings false → ⊥
  received_stands s at any = by h.received refl any
    where
      by : (es : List (Addr × Attr)) → h.received ≡ es → is_any es ≡ true → h.standings ≡ no_standings false → ⊥
      by [] is none = absurd (true≢false (sym none))
      by (e ∷ es) is some =
          let up : is_up c e.0 r ≡ true =
          (all_pass (λ u. is_up c u r) (e ∷ es) (subst (λ l. kept_from c r l ≡ l) is kept)).0 in
          let with_ = up_with s e.0 (up_in_site c r s (site_of_router c r s at) e.0 ∙ up_either c r e.0 ∙ up) in
          let route : route_of h.received e.0 ≡ Some e.1 = ap (λ l. route_of l e.0) is
          ∙ ap (λ o. cond (is_eq o) (Some e.1) (route_of es e.0)) (tied_itself addr_total e.0) in
          some_stands h.standings (FromPeer e.0) (peer_standing s p with_.session e.1)
          (ap (λ m. standing_from m (FromPeer e.0)) (stood_at s at)
          ∙ peer_has_standing s p h.received (peers_of_site s at) e.0 with_.session e.1 with_.found
          (peer_found s.sessions e.0 with_.session with_.found) route with_.up)

  -- where settings and sessions become other
  reset : (s t : SiteConf) → router_site c r ≡ Some s → router_site d r ≡ Some t → same_facts s t ≡ false →
      (has_route s p h.received || is_originated t p) ≡ true → Touches
  reset s t at at' apart some =
      inr (
        subst (λ o. AreFactsMoved o (router_site d r)) (sym at) (subst (AreFactsMoved (Some s)) (sym at') apart),
        by (is_any h.received) (is_originated s p) refl refl some,
      )
    where
      by : (any own : Bool) → is_any h.received ≡ any → is_originated s p ≡ own →
          ((any || own) || is_originated t p) ≡ true → (h.standings ≡ no_standings false → ⊥)
          ⊎ (after ≡ no_standings false → ⊥)
      by true own is has it = inl (received_stands s at is)
      by false true is has it =
          inl (some_stands h.standings Own (Considered (own_candidate s.me)) (own_before s at
          ∙ ap (λ b. cond b (Some (Considered (own_candidate s.me))) None) has))
      by false false is has it =
          inr (some_stands after Own (Considered (own_candidate t.me)) (own_after t at'
          ∙ ap (λ b. cond b (Some (Considered (own_candidate t.me))) None) it))

  -- where the router comes to originate the prefix, or ceases to
  own_apart : (s t : SiteConf) → router_site c r ≡ Some s → router_site d r ≡ Some t →
      is_own_moved (record { old = s; new = t }) p ≡ true → h.standings ≡ after → ⊥
  own_apart s t at at' moved =
      differ_at h.standings after Own (λ same. by (is_originated s p) (is_originated t p) moved (sym (own_before s at)
      ∙ same ∙ own_after t at'))
    where
      by : (a b : Bool) → not (beq a b) ≡ true → cond a (Some (Considered (own_candidate s.me))) None
          ≡ cond b (Some (Considered (own_candidate t.me))) None → ⊥
      by true true is same = true≢false (sym is)
      by true false is same = none-some _ (sym same)
      by false true is same = none-some _ same
      by false false is same = true≢false (sym is)

  -- where a cost that counts becomes another
  cost_apart : (s : SiteConf) (os : List Prefix) (k : Reached) → router_site c r ≡ Some s →
      router_site d r ≡ Some (new s os k p) → list_any (is_route_moved (pair s os k p) p) h.received ≡ true →
      h.standings ≡ after → ⊥
  cost_apart s os k at at' moved =
      let t = new s os k p in
      let one = one_passes (is_route_moved (pair s os k p) p) h.received senders moved in
      let u = one.from in
      let attr = one.attr in
      let parts = and_parts (is_cost_moved (pair s os k p) attr)
      (option_map_or (counts_cost s p attr) (session_with s u) false) one.passes in
      let stays : kept_from d r h.received ≡ h.received =
      sym (kept_routes_is d r t (site_of_router d r t at') h.received)
      ∙ kept_routes_is c r s (site_of_router c r s at) h.received ∙ kept in
      by u attr one.found stays parts.0 (session_with s u) refl parts.1
    where
      by : (u : Addr) (attr : Attr) → route_of h.received u ≡ Some attr → kept_from d r h.received ≡ h.received →
          is_cost_moved (pair s os k p) attr ≡ true → (o : Option SiteSession) → session_with s u ≡ o →
          option_map_or (counts_cost s p attr) o false ≡ true → h.standings ≡ after → ⊥
      by u attr route stays cost None found counts = absurd (true≢false (sym counts))
      by u attr route stays cost (Some x) found counts =
          let parts = and_parts x.up (is_about_cost (exclusion s (judged x.policy_in p attr) attr)) counts in
          let peer = peer_found s.sessions u x found in
          let before : standing_from h.standings (FromPeer u) ≡ Some (peer_standing s p x attr) =
          ap (λ m. standing_from m (FromPeer u)) (stood_at s at)
          ∙ peer_has_standing s p h.received (peers_of_site s at) u x attr found peer route parts.0 in
          let later : standing_from after (FromPeer u) ≡ Some (peer_standing (new s os k p) p x attr) =
          ap (λ m. standing_from m (FromPeer u)) (stands_at (new s os k p) at'
          ∙ ap (standings_of (new s os k p) p) stays)
          ∙ peer_has_standing (new s os k p) p h.received (peers_of_site s at) u x attr found peer route parts.0 in
          differ_at h.standings after (FromPeer u)
          (λ same. restood s os k p x attr parts.1 cost (same_Some _ _ (sym before ∙ same ∙ later)))

  or_either : (a b : Bool) → (a || b) ≡ true → (a ≡ true) ⊎ (b ≡ true)
  or_either true b is = inl refl
  or_either false b is = inr is

  -- a router's cell that can change is touched
  pub touched : moves c d r p h ≡ true → (router_site c r ≡ None → h.received ≡ []) →
      (router_site d r ≡ None → ⊥) → Touches
  touched moved new_router router = by (router_site c r) (router_site d r) refl refl moved
    where
      alike_by : (s t : SiteConf) → router_site c r ≡ Some s → router_site d r ≡ Some t → same_facts s t ≡ true →
          (is_own_moved (record { old = s; new = t }) p ≡ true)
          ⊎ (list_any (is_route_moved (record { old = s; new = t }) p) h.received ≡ true) → Touches
      alike_by s t at at' same (inl own) = inl (own_apart s t at at' own)
      alike_by s t at at' same (inr routes) =
          let is = facts_exact s t same in
          inl (cost_apart s t.origins t.costs at (at'
          ∙ ap Some is) (subst (λ x. list_any (is_route_moved (record { old = s; new = x }) p) h.received
          ≡ true) is routes))

      router_by : (s t : SiteConf) (same : Bool) → router_site c r ≡ Some s → router_site d r ≡ Some t →
          same_facts s t ≡ same → (if same then is_own_moved (record { old = s; new = t }) p
          || list_any (is_route_moved (record { old = s; new = t }) p) h.received else has_route s p h.received
          || is_originated t p) ≡ true → Touches
      router_by s t true at at' same some =
          alike_by s t at at' same (or_either (is_own_moved (record { old = s; new = t }) p) _ some)
      router_by s t false at at' same some = reset s t at at' same some

      new_by : (t : SiteConf) → router_site c r ≡ None → router_site d r ≡ Some t → is_originated t p ≡ true →
          h.standings ≡ after → ⊥
      new_by t at at' own =
          differ_at h.standings after Own (λ same. none-some (Considered (own_candidate t.me))
          (sym (ap (λ (x : Cell). standing_from x.standings Own) (was ∙ ap (λ o. decided o p h.received) at)
          ∙ finite.get-empty source_cmp Own)
          ∙ same ∙ own_after t at' ∙ ap (λ b. cond b (Some (Considered (own_candidate t.me))) None) own))

      by : (x y : Option SiteConf) → router_site c r ≡ x → router_site d r ≡ y →
          is_moved_by x y d r p h ≡ true → Touches
      by x None at at' some = absurd (router at')
      by (Some s) (Some t) at at' some = router_by s t (same_facts s t) at at' refl some
      by None (Some t) at at' some =
          inl (new_by t at at' (ap (λ l. is_any l || is_originated t p) (sym (new_router at)) ∙ some))
