-- A cell that an edit cannot change is settled.
use Rattle.std.proofs.Common.{◌≡◌, ℕ, Bool, true, false, cond, not, ◌&&◌, ◌||◌, ◌==◌, List, [], ◌∷◌, ◌++◌, filter, Option, Some, None, option_map, is_none, unwrap_or, if◌then◌else◌, refl, sym, ap, subst, ◌∙◌}
use Rattle.std.proofs.Math.Bool.{beq}
use Rattle.std.proofs.lemmas.Bool.{true≢false}
use Rattle.std.proofs.lemmas.Option.{none-some, same_Some}
use Rattle.std.specs.Cmp.{unsigned_Decides}
use Rattle.std.specs.Option.{option_map_or}
use Rattle.std.specs.List.{AllByRecursion, list_any, filter_map, cons_option}
use Rattle.std.specs.BTreeMap.{is_at}
use Rattle.net_prefix.specs.declared.addr.Addr.{Addr}
use Rattle.net_prefix.specs.Address.{addr_cmp}
use Rattle.net_prefix.specs.Prefix.{Prefix}
use Rattle.path_attr.specs.Path.{holds}
use Rattle.path_attr.specs.Number.{same_number}
use Rattle.path_attr.specs.Attribute.{same_maybe_addr}
use Rattle.path_attr.specs.declared.attr.Attr.{Attr}
use Rattle.igp_cost.specs.Trees.{Reached, cost_in}
use Rattle.route_policy.specs.declared.rule.Action.{Action}
use Rattle.route_policy.specs.Judging.{judged}
use Rattle.net_conf.specs.Configuration.{Configuration}
use Rattle.net_conf.specs.Configured.{IsConfigured}
use Rattle.net_conf.specs.Costs.{is_up}
use Rattle.net_conf.specs.Facts.{same_facts, with_facts_of}
use Rattle.net_conf.specs.FactLaws.{facts_exact}
use Rattle.net_conf.specs.RouterSites.{router_site}
use Rattle.net_conf.specs.Sites.{session_with}
use Rattle.net_conf.specs.declared.site.SiteConf.{SiteConf}
use Rattle.net_conf.specs.declared.site.SiteSession.{SiteSession}
use Rattle.net_conf.proofs.RouterLaws.{site_sessions_in_order}
use Rattle.route_select.specs.Selection.{no_standings, best_of}
use Rattle.route_select.specs.declared.candidate.Source.{Source}
use Rattle.route_select.specs.declared.candidate.Source.TheVariants.{Own, Peer as FromPeer}
use Rattle.route_select.specs.declared.candidate.Candidate.{Candidate}
use Rattle.route_select.specs.declared.candidate.Reason.{Reason}
use Rattle.route_select.specs.declared.candidate.Reason.TheVariants.{Loop, Originator, Cluster, Denied, Unresolved}
use Rattle.route_select.specs.declared.candidate.Standing.{Standing}
use Rattle.route_select.specs.declared.candidate.Standing.TheVariants.{Considered}
use Rattle.reflect_out.specs.Advertising.{advert}
use Rattle.reference_machine.specs.Decision.{own_candidate, is_originated, has_cluster_loop, is_denial, exclusion, imported, preference, peer_candidate, standing_by, peer_standing, standing_over, added}
use Rattle.reference_machine.specs.Advertising.{advert_of, change_of}
use Rattle.cell_engine.specs.Cells.{Cell, new_cell, is_any, effective, route_of, standing_of, decided, is_up_in, send_to, send_over, sends_of, refreshed}
use Rattle.cell_engine.specs.SiteMoves.{SitePair, is_about_cost, is_cost_moved, is_route_moved, is_own_moved, has_route}
use Rattle.cell_engine.proofs.Outcomes.{decided_nothing}
use Rattle.cell_engine.proofs.StandingsAfter.{one_addr}
use Rattle.cell_engine.proofs.Unchanged.{each_found}
use Rattle.cell_engine.specs.Keeping.{kept_from}
use Rattle.cell_engine.specs.Editing.{sends_between}
use Rattle.cell_engine.specs.Moves.{is_moved_by, moves}
use Rattle.cell_engine.specs.Settled.{IsSettled}
use Rattle.cell_engine.proofs.Decided.{none_best}
use Rattle.cell_engine.proofs.Settled.{settled}
use Rattle.cell_engine.proofs.Sites.{kept_routes_is, site_of_router}

-- TESTS THAT FAIL

left_false : (a b : Bool) → (a || b) ≡ false → a ≡ false
left_false true b h = h
left_false false b h = refl

right_false : (a b : Bool) → (a || b) ≡ false → b ≡ false
right_false true b h = absurd (true≢false h)
right_false false b h = h

-- a route that is found fails a test that all fail
found_fails : (f : Addr × Attr → Bool) (u : Addr) (attr : Attr) (routes : List (Addr × Attr)) →
    list_any f routes ≡ false → route_of routes u ≡ Some attr → f (u, attr) ≡ false
found_fails f u attr [] none at = absurd (none-some attr at)
found_fails f u attr (e ∷ es) none at =
    by (is_at (addr_cmp u) e.0) refl at (found_fails f u attr es (right_false (f e) (list_any f es) none))
  where
    by : (here : Bool) → is_at (addr_cmp u) e.0 ≡ here → cond here (Some e.1) (route_of es u) ≡ Some attr →
        (route_of es u ≡ Some attr → f (u, attr) ≡ false) → f (u, attr) ≡ false
    by true is found later =
        let key : u ≡ e.0 = one_addr u e.0 is in
        let value : e.1 ≡ attr = same_Some e.1 attr found in
        (λ i. f (key i, sym value i)) ∙ left_false (f e) (list_any f es) none
    by false is found later = later found

number_true : (m n : Option ℕ) → not (same_number m n) ≡ false → n ≡ m
number_true None None h = refl
number_true (Some m) (Some n) h = by (m == n) refl h
  where
    by : (b : Bool) → (m == n) ≡ b → not b ≡ false → Some n ≡ Some m
    by true same is = ap Some (sym ((unsigned_Decides m n).0 same))
    by false same is = absurd (true≢false is)
number_true None (Some n) h = absurd (true≢false h)
number_true (Some m) None h = absurd (true≢false h)

bool_true : (a b : Bool) → not (beq a b) ≡ false → b ≡ a
bool_true true true h = refl
bool_true false false h = refl
bool_true true false h = absurd (true≢false h)
bool_true false true h = absurd (true≢false h)

-- ONE ROUTE

-- what excludes a route, by the tests and the cost
abbrev pub excluded : Bool → Bool → Bool → Bool → Option ℕ → Option Reason
excluded loops returns again denied n =
    if loops then Some Loop else if returns then Some Originator else if again then Some Cluster
    else if denied then Some Denied
    else if is_none n then Some Unresolved else None

-- where a test excludes it, the cost does not matter
no_cost : (loops returns again denied : Bool) (n m : Option ℕ) (x y : Candidate) →
    is_about_cost (excluded loops returns again denied n) ≡ false →
    standing_by (excluded loops returns again denied m) x ≡ standing_by (excluded loops returns again denied n) y
no_cost true returns again denied n m x y h = refl
no_cost false true again denied n m x y h = refl
no_cost false false true denied n m x y h = refl
no_cost false false false true n m x y h = refl
no_cost false false false false None m x y h = absurd (true≢false h)
no_cost false false false false (Some c) m x y h = absurd (true≢false h)

module _ (s : SiteConf) (os : List Prefix) (k : Reached) (p : Prefix) where
  -- the site, with other originated prefixes and costs
  abbrev pub new : SiteConf
  new = with_facts_of s os k

  abbrev pub pair : SitePair
  pair = record { old = s; new = new }

  module _ (x : SiteSession) (attr : Attr) where
    abbrev pub action : Action
    action = judged x.policy_in p attr

    -- how the route stands by the cost to its NEXT_HOP
    abbrev pub stands : Option ℕ → Standing
    stands n = standing_by (excluded (holds s.asn attr.path) (same_maybe_addr attr.oid (Some s.me))
        (has_cluster_loop s attr) (is_denial action) n) (record {
          source = FromPeer x.peer;
          attr = imported x.external action attr;
          pref = preference x.external action attr;
          external = x.external;
          cost = unwrap_or n 0;
          ident = x.peer;
        })

    same_cost : cost_in k attr.next ≡ cost_in s.costs attr.next → peer_standing new p x attr ≡ peer_standing s p x attr
    same_cost same = ap stands same

    -- where the session is up
    abbrev stood : Bool → Standing → Option (Source × Standing)
    stood up t = cond {A = Option (Source × Standing)} up (Some (FromPeer x.peer, t)) None

    over_by : (up moved : Bool) → is_cost_moved pair attr ≡ moved →
        (moved && (up && is_about_cost (exclusion s action attr))) ≡ false →
        stood up (peer_standing new p x attr) ≡ stood up (peer_standing s p x attr)
    over_by false moved is h = refl
    over_by true false is h =
        ap (stood true) (same_cost (number_true (cost_in s.costs attr.next) (cost_in k attr.next) is))
    over_by true true is h =
        ap (stood true)
        (no_cost (holds s.asn attr.path) (same_maybe_addr attr.oid (Some s.me)) (has_cluster_loop s attr)
        (is_denial action) (cost_in s.costs attr.next) (cost_in k attr.next) (peer_candidate new x action attr)
        (peer_candidate s x action attr) h)

    over : session_with s x.peer ≡ Some x → is_route_moved pair p (x.peer, attr) ≡ false →
        standing_over new p x (Some attr) ≡ standing_over s p x (Some attr)
    over found unmoved =
        over_by x.up (is_cost_moved pair attr) refl
        (ap (λ o. is_cost_moved pair attr
        && option_map_or (λ (y : SiteSession). y.up && is_about_cost (exclusion s (judged y.policy_in p attr) attr))
        o false) (sym found) ∙ unmoved)

  -- ALL ROUTES

  module _ (routes : List (Addr × Attr)) (unmoved : list_any (is_route_moved pair p) routes ≡ false) where
    one : (x : SiteSession) → session_with s x.peer ≡ Some x → standing_of new p routes x ≡ standing_of s p routes x
    one x found = by (route_of routes x.peer) refl
      where
        by : (o : Option Attr) → route_of routes x.peer ≡ o → standing_over new p x o ≡ standing_over s p x o
        by None at = refl
        by (Some attr) at = over x attr found (found_fails (is_route_moved pair p) x.peer attr routes unmoved at)

    each : (xs : List SiteSession) → AllByRecursion (λ x. session_with s x.peer ≡ Some x) xs →
        filter_map (standing_of new p routes) xs ≡ filter_map (standing_of s p routes) xs
    each [] all = refl
    each (x ∷ xs) all = λ i. cons_option (one x all.0 i) (each xs all.1 i)

    decides_alike : AllByRecursion (λ x. session_with s x.peer ≡ Some x) s.sessions → is_own_moved pair p ≡ false →
        decided (Some new) p routes ≡ decided (Some s) p routes
    decides_alike found own =
        let same = bool_true (is_originated s p) (is_originated new p) own in
        λ i. record {
          received = routes;
          standings = effective (added (no_standings s.med_always)
              (cond (same i) ((Own, Considered (own_candidate s.me)) ∷ []) [] ++ each s.sessions found i));
        }

  sends_alike : (had has : Option Candidate) → sends_of s new p had has ≡ sends_of s s p had has
  unfolding advert
  sends_alike had has = refl

-- NO ROUTE

nothing_there : {A : Type 0} (xs : List A) → is_any xs ≡ false → xs ≡ []
nothing_there [] h = refl
nothing_there (x ∷ xs) h = absurd (true≢false h)

module _ (s t : SiteConf) (p : Prefix) where
  silent_over : (x : SiteSession) (had up : Bool) →
      send_to x.peer (change_of p (advert_of had (Some s) x.peer p None) (advert_of up (Some t) x.peer p None)) ≡ None
  silent_over x true true = refl
  silent_over x true false = refl
  silent_over x false true = refl
  silent_over x false false = refl

  silent_all : (xs : List SiteSession) → filter_map (send_over s t p None None) xs ≡ []
  silent_all [] = refl
  silent_all (x ∷ xs) = λ i. cons_option (silent_over x (is_up_in s x.peer) x.up i) (silent_all xs i)

-- where there is no route, before or after, nothing is sent
nothing_sent : (o : Option SiteConf) (t : SiteConf) (p : Prefix) → is_originated t p ≡ false →
    sends_between o (Some t) p new_cell ≡ []
unfolding refreshed
nothing_sent o t p off =
    let s : SiteConf = unwrap_or o t in
    (λ i. sends_of s t p (none_best i)
    ((ap (λ (h : Cell). best_of h.standings) (sym (decided_nothing t p off)) ∙ none_best) i))
    ∙ silent_all s t p (filter (λ x. x.up) t.sessions)

-- A CELL

module _ (c d : Configuration) (configured : IsConfigured c) (r : Addr) (p : Prefix) (h : Cell)
    (kept : kept_from c r h.received ≡ h.received) (was : h ≡ decided (router_site c r) p h.received) where
  -- a router, of which settings and sessions stay
  alike_settled : (s t : SiteConf) → router_site c r ≡ Some s → router_site d r ≡ Some t → same_facts s t ≡ true →
      is_own_moved (record { old = s; new = t }) p ≡ false →
      list_any (is_route_moved (record { old = s; new = t }) p) h.received ≡ false → IsSettled c d r p h
  alike_settled s t at at' same own unmoved = by t at' own unmoved (facts_exact s t same)
    where
      by : (u : SiteConf) → router_site d r ≡ Some u → is_own_moved (record { old = s; new = u }) p ≡ false →
          list_any (is_route_moved (record { old = s; new = u }) p) h.received ≡ false →
          u ≡ with_facts_of s t.origins t.costs → IsSettled c d r p h
      by u there own unmoved is =
          let os = t.origins in
          let k = t.costs in
          let found = each_found s.sessions (site_sessions_in_order c r s configured (site_of_router c r s at)) in
          let own_stays = subst (λ x. is_own_moved (record { old = s; new = x }) p ≡ false) is own in
          let routes_stay = subst (λ x. list_any (is_route_moved (record { old = s; new = x }) p) h.received
          ≡ false) is unmoved in
          let next : router_site d r ≡ Some (with_facts_of s os k) = there ∙ ap Some is in
          let decides : decided (Some (with_facts_of s os k)) p h.received ≡ decided (Some s) p h.received =
          decides_alike s os k p h.received routes_stay found own_stays in
          let up : kept_from d r h.received ≡ h.received =
          sym (kept_routes_is d r (with_facts_of s os k) (site_of_router d r _ next) h.received)
          ∙ kept_routes_is c r s (site_of_router c r s at) h.received ∙ kept in
          let one : (site : SiteConf) → router_site c r ≡ Some site →
          s ≡ site = λ site here. same_Some s site (sym at ∙ here) in
          settled c d configured r p h (λ x. with_facts_of x os k) (next
          ∙ ap (λ o. option_map (λ x. with_facts_of x os k) o) (sym at))
          (λ site here. subst (λ x. decided (Some (with_facts_of x os k)) p h.received ≡ decided (Some x) p h.received)
          (one site here) decides)
          (λ site had has. sends_alike site os k p had has)
          up was

  -- nothing was heard where no route was received, and the router does not originate the prefix
  not_in_cell : (o : Option SiteConf) → router_site c r ≡ o →
      ((s : SiteConf) → o ≡ Some s → is_originated s p ≡ false) → h.received ≡ [] → h ≡ new_cell
  not_in_cell None at off none = was ∙ λ i. decided (at i) p (none i)
  not_in_cell (Some s) at off none = was ∙ (λ i. decided (at i) p (none i)) ∙ sym (decided_nothing s p (off s refl))

  -- a router without a route to the prefix
  routeless_settled : (o : Option SiteConf) (t : SiteConf) → router_site c r ≡ o → router_site d r ≡ Some t →
      h ≡ new_cell → is_originated t p ≡ false → IsSettled c d r p h
  routeless_settled o t at at' empty off = subst (IsSettled c d r p) (sym empty) (record {
    cell = ap (λ x. decided x p []) at' ∙ sym (decided_nothing t p off);
    silent = (λ i. sends_between (at i) (at' i) p new_cell) ∙ nothing_sent o t p off;
  })

  all_up : (routes : List (Addr × Attr)) → list_any (λ e. not (is_up d e.0 r)) routes ≡ false →
      kept_from d r routes ≡ routes
  all_up [] none = refl
  all_up (e ∷ es) none = by (is_up d e.0 r) refl
      (all_up es (right_false (not (is_up d e.0 r)) (list_any (λ x. not (is_up d x.0 r)) es) none))
    where
      by : (up : Bool) → is_up d e.0 r ≡ up → kept_from d r es ≡ es → kept_from d r (e ∷ es) ≡ e ∷ es
      by true is rest = ap (λ b. cond b (e ∷ kept_from d r es) (kept_from d r es)) is ∙ ap (λ l. e ∷ l) rest
      by false is rest = absurd
          (true≢false (sym (ap not is)
          ∙ left_false (not (is_up d e.0 r)) (list_any (λ x. not (is_up d x.0 r)) es) none))

  -- where there is no router
  peer_settled : router_site c r ≡ None → router_site d r ≡ None → list_any (λ e. not (is_up d e.0 r)) h.received
      ≡ false → IsSettled c d r p h
  peer_settled at at' none = record {
    cell = (λ i. decided (at' i) p (all_up h.received none i)) ∙ ap (λ o. decided o p h.received) (sym at) ∙ sym was;
    silent = λ i. sends_between (at i) (at' i) p h;
  }

  -- a cell that the edit cannot change
  pub settled_but_moved : moves c d r p h ≡ false → IsSettled c d r p h
  settled_but_moved unmoved = by (router_site c r) (router_site d r) refl refl unmoved
    where
      router_by : (s t : SiteConf) (same : Bool) → router_site c r ≡ Some s → router_site d r ≡ Some t →
          same_facts s t ≡ same → (if same then is_own_moved (record { old = s; new = t }) p
          || list_any (is_route_moved (record { old = s; new = t }) p) h.received else has_route s p h.received
          || is_originated t p) ≡ false → IsSettled c d r p h
      router_by s t true at at' same none =
          let own = is_own_moved (record { old = s; new = t }) p in
          let routes = list_any (is_route_moved (record { old = s; new = t }) p) h.received in
          alike_settled s t at at' same (left_false own routes none) (right_false own routes none)
      router_by s t false at at' same none =
          let no_route = left_false (has_route s p h.received) (is_originated t p) none in
          let received = nothing_there h.received (left_false (is_any h.received) (is_originated s p) no_route) in
          let off : (u : SiteConf) → Some s ≡ Some u → is_originated u p ≡ false =
          λ u is. subst (λ x. is_originated x p ≡ false) (same_Some s u is)
          (right_false (is_any h.received) (is_originated s p) no_route) in
          routeless_settled (Some s) t at at' (not_in_cell (Some s) at off received)
          (right_false (has_route s p h.received) (is_originated t p) none)

      by : (x y : Option SiteConf) → router_site c r ≡ x → router_site d r ≡ y → is_moved_by x y d r p h ≡ false →
          IsSettled c d r p h
      by None None at at' none = peer_settled at at' none
      by (Some s) (Some t) at at' none = router_by s t (same_facts s t) at at' refl none
      by None (Some t) at at' none =
          let received = nothing_there h.received (left_false (is_any h.received) (is_originated t p) none) in
          routeless_settled None t at at' (not_in_cell None at (λ s is. absurd (none-some s is)) received)
          (right_false (is_any h.received) (is_originated t p) none)
      by (Some s) None at at' none = absurd (true≢false none)
