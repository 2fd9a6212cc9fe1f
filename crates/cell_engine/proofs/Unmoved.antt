-- The cells of a router that an edit does not concern cannot change.
use Rattle.std.proofs.Common.{◌≡◌, ℕ, Bool, true, false, cond, not, ◌&&◌, ◌||◌, List, [], ◌∷◌, map, filter, Option, Some, None, option_map, unwrap_or, if◌then◌else◌, refl, sym, ap, subst, ◌∙◌}
use Rattle.std.proofs.lemmas.Bool.{true≢false}
use Rattle.std.specs.Cmp.{unsigned_Decides, booleans_Decides}
use Rattle.std.specs.Option.{option_map_or}
use Rattle.std.specs.List.{AllByRecursion, list_any}
use Rattle.std.specs.FinMap as finite
use Rattle.net_prefix.specs.declared.addr.Addr.{Addr}
use Rattle.net_prefix.specs.Prefix.{Prefix}
use Rattle.path_attr.specs.Number.{same_number}
use Rattle.path_attr.specs.declared.attr.Attr.{Attr}
use Rattle.igp_cost.specs.Trees.{Reached, cost_in}
use Rattle.net_conf.specs.Concerned.{StaysAt}
use Rattle.net_conf.specs.Configuration.{Configuration, node_at, ends_session}
use Rattle.net_conf.specs.Costs.{costs_of, is_up}
use Rattle.net_conf.specs.FactLaws.{facts_itself}
use Rattle.net_conf.specs.RouterSites.{router_site}
use Rattle.net_conf.specs.Sites.{session_with, site_at, site_of}
use Rattle.reference_machine.specs.Decision.{is_originated}
use Rattle.net_conf.specs.declared.site.SiteConf.{SiteConf}
use Rattle.net_conf.specs.declared.tables.Node.{Node}
use Rattle.net_conf.proofs.KeptTrees.{session_turned, session_ends}
use Rattle.prefix_table.specs.Tables.{Table}
use Rattle.cell_engine.specs.RouterTables.{table_at, value_at}
use Rattle.cell_engine.specs.Cells.{Cell, new_cell}
use Rattle.cell_engine.specs.SiteMoves.{SitePair, is_cost_moved, is_route_moved, is_own_moved, is_moved, has_route, counts_cost}
use Rattle.cell_engine.specs.Changes.{AreOverSessionsUp, cell_change, router_changes}
use Rattle.cell_engine.specs.Keeping.{kept_from}
use Rattle.cell_engine.specs.Moves.{is_moved_by, moves}
use Rattle.cell_engine.proofs.Directions.{session_if_up}
use Rattle.cell_engine.proofs.OverSessions.{all_pass}
use Rattle.cell_engine.proofs.Placed.{cells_found}
use Rattle.cell_engine.proofs.Refreshed.{all_from}
use Rattle.cell_engine.proofs.Sites.{site_of_router}

both_false : (a b : Bool) → a ≡ false → b ≡ false → (a || b) ≡ false
both_false a b h g = (λ i. h i || b) ∙ g

module _ (s : SiteConf) (k : Reached) (p : Prefix) where
  abbrev pair : SitePair
  pair = record { old = s; new = record s { costs = k } }

  number_itself : (o : Option ℕ) → not (same_number o o) ≡ false
  number_itself None = refl
  number_itself (Some n) = ap not ((unsigned_Decides n n).1 refl)

  routes_stay : k ≡ s.costs → (routes : List (Addr × Attr)) → list_any (is_route_moved pair p) routes ≡ false
  routes_stay same [] = refl
  routes_stay same (e ∷ es) =
      let cost : is_cost_moved pair e.1 ≡ false =
      ap (λ t. not (same_number (cost_in s.costs e.1.next) (cost_in t e.1.next))) same
      ∙ number_itself (cost_in s.costs e.1.next) in
      both_false (is_route_moved pair p e) (list_any (is_route_moved pair p) es)
      (ap (λ b. b && option_map_or (counts_cost s p e.1) (session_with s e.0) false) cost) (routes_stay same es)

  own_stays : is_own_moved pair p ≡ false
  own_stays = ap not ((booleans_Decides _ _).1 refl)

  unmoved_pair : (routes : List (Addr × Attr)) → list_any (is_route_moved pair p) routes ≡ false →
      is_moved pair p routes ≡ false
  unmoved_pair routes stay =
      ap (λ b. if b then is_own_moved pair p || list_any (is_route_moved pair p) routes
      else has_route s p routes || is_originated pair.new p) (facts_itself s s.origins k)
      ∙ both_false (is_own_moved pair p) (list_any (is_route_moved pair p) routes) own_stays stay

costs_by : (c : Configuration) (r : Addr) (site : SiteConf) (n : Option Node) → option_map (site_at c r) n ≡ Some site →
    site.costs ≡ costs_of c r
costs_by c r site None h = cc
costs_by c r site (Some n) h = sym (ap (λ (o : Option SiteConf). (unwrap_or o site).costs) h)

costs_in : (c : Configuration) (r : Addr) (site : SiteConf) → router_site c r ≡ Some site → site.costs ≡ costs_of c r
unfolding site_of
costs_in c r site at = costs_by c r site (node_at c r) (site_of_router c r site at)

module _ (c d : Configuration) (r : Addr) (stays : StaysAt c d r) where
  module _ (p : Prefix) (h : Cell) (kept : kept_from c r h.received ≡ h.received) where
    none_lost : (es : List (Addr × Attr)) → AllByRecursion (λ e. is_up c e.0 r ≡ true) es →
        list_any (λ e. not (is_up d e.0 r)) es ≡ false
    none_lost [] all = refl
    none_lost (e ∷ es) all = both_false (not (is_up d e.0 r)) (list_any (λ x. not (is_up d x.0 r)) es)
        (ap not (stays.up e.0 ∙ all.0)) (none_lost es all.1)

    over_sessions : AllByRecursion (λ e. is_up c e.0 r ≡ true) h.received
    over_sessions = all_pass (λ u. is_up c u r) h.received kept

    -- who ends no session has received nothing
    received_nothing : (es : List (Addr × Attr)) → AllByRecursion (λ e. is_up c e.0 r ≡ true) es →
        ends_session c r ≡ false → es ≡ []
    received_nothing [] all off = refl
    received_nothing (e ∷ es) all off =
        absurd (true≢false (sym (session_ends c r e.0 (session_turned c e.0 r (session_if_up c e.0 r all.0))) ∙ off))

    unmoved : moves c d r p h ≡ false
    unmoved = ap (λ o. is_moved_by (router_site c r) o d r p h) stays.facts ∙ by (router_site c r) refl
      where
        routes : (s : SiteConf) → router_site c r ≡ Some s → (ends : Bool) → ends_session c r ≡ ends →
            list_any (is_route_moved (pair s (costs_of d r) p) p) h.received ≡ false
        routes s at true is = routes_stay s (costs_of d r) p (stays.costs is ∙ sym (costs_in c r s at)) h.received
        routes s at false is = ap (list_any (is_route_moved (pair s (costs_of d r) p) p))
            (received_nothing h.received over_sessions is)

        by : (o : Option SiteConf) → router_site c r ≡ o →
            is_moved_by o (option_map (λ (s : SiteConf). record s { costs = costs_of d r }) o) d r p h ≡ false
        by None at = none_lost h.received over_sessions
        by (Some s) at = unmoved_pair s (costs_of d r) p h.received (routes s at (ends_session c r) refl)

  none_chosen : (cells : List (Prefix × Cell)) → AllByRecursion (λ e. moves c d r e.0 e.1 ≡ false) cells →
      router_changes (moves c d) c d r cells ≡ []
  none_chosen [] all = refl
  none_chosen (e ∷ es) all =
      ap (λ b. map (λ (x : Prefix × Cell). cell_change c d r x.0 x.1)
      (cond b (e ∷ filter (λ x. moves c d r x.0 x.1) es) (filter (λ x. moves c d r x.0 x.1) es))) all.0
      ∙ none_chosen es all.1

  -- an edit that does not concern the router changes none of its cells
  pub none_of_router : (ts : List (Addr × Table Cell)) → AreOverSessionsUp c ts →
      router_changes (moves c d) c d r (finite.entries (table_at r ts)) ≡ []
  none_of_router ts up =
      let cells = finite.entries (table_at r ts) in
      none_chosen cells (all_from (λ e. value_at r e.0 ts ≡ Some e.1) (λ e. moves c d r e.0 e.1 ≡ false)
      (λ e at. unmoved e.0 e.1
      (subst (λ x. kept_from c r (unwrap_or x new_cell).received ≡ (unwrap_or x new_cell).received) at (up r e.0)))
      cells (cells_found c d ts r (table_at r ts) refl))
