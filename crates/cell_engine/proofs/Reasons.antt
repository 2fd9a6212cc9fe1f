-- Why routes were chosen or dropped, source by source: the sources of a cell are the router itself and the senders.
use Rattle.std.proofs.Common.{◌≡◌, Bool, true, false, cond, ◌||◌, List, [], ◌∷◌, ◌++◌, map, Option, Some, None, option_map, is_some, IsTrue, unwrap_or, if◌then◌else◌, refl, sym, ap, ◌∙◌}
use Rattle.std.proofs.lemmas.Bool.{true≢false, or_parts}
use Rattle.std.specs.List.{AllByRecursion, list_any, filter_map, cons_option}
use Rattle.std.specs.List.Sorted.{IsStrictlySortedBy}
use Rattle.std.specs.Map.{keys_of}
use Rattle.std.specs.declared.cmp.Ordering.TheVariants.{Less}
use Rattle.std.specs.Ordering.{is_eq, eq_by_cmp}
use Rattle.std.specs.FinMap as finite
use Rattle.std.specs.FinMap.Entries.{is_sorted}
use Rattle.net_prefix.specs.declared.addr.Addr.{Addr}
use Rattle.net_prefix.specs.Address.{addr_cmp}
use Rattle.net_prefix.specs.Prefix.{Prefix}
use Rattle.path_attr.specs.declared.attr.Attr.{Attr}
use Rattle.prefix_table.specs.Tables.{Table}
use Rattle.net_conf.specs.Configuration.{Configuration, node_at, is_virtual}
use Rattle.net_conf.specs.RouterSites.{router_site}
use Rattle.net_conf.specs.Sites.{site_at, site_of}
use Rattle.net_conf.specs.declared.tables.Node.{Node}
use Rattle.net_conf.specs.declared.site.SiteConf.{SiteConf}
use Rattle.net_conf.specs.declared.site.SiteSession.{SiteSession}
use Rattle.route_select.specs.declared.candidate.Source.{Source}
use Rattle.route_select.specs.declared.candidate.Reason.{Reason}
use Rattle.route_select.specs.declared.candidate.Source.TheVariants.{Own, Peer as FromPeer}
use Rattle.route_select.specs.declared.candidate.Standing.{Standing}
use Rattle.route_select.specs.Selection.{Standings, source_cmp, no_standings, with_standing, standing_from, considered, reason_for}
use Rattle.route_select.proofs.EntryLemmas.{same_source, source_total}
use Rattle.reference_machine.specs.Decision.{own_standings, is_originated, standing_over, added, standings}
use Rattle.reference_machine.specs.Reports.{why, reasons_of, reasons_at, reasons}
use Rattle.cell_engine.specs.RouterTables.{value_at}
use Rattle.cell_engine.specs.Cells.{Cell, new_cell, route_of, standing_of, standings_of, decided}
use Rattle.cell_engine.specs.State.{State, IsConsistent, cell_at, all_entries, network}
use Rattle.cell_engine.specs.Reporting.{sources_in, reason_at, reasons_in}
use Rattle.cell_engine.proofs.Decided.{is_cell, cell_decided, standings_at_cell}
use Rattle.cell_engine.proofs.Effective.{no_entries, effective_reasons}
use Rattle.cell_engine.proofs.Listed.{listed}
use Rattle.cell_engine.proofs.Picks.{is_equal}
use Rattle.cell_engine.proofs.Reports.{not_true}

-- WHO HAS NO STANDING

module _ (q : Source) where
  -- none of the entries is the source's
  abbrev AreOfOthers : List (Source × Standing) → Type 0
  AreOfOthers es = AllByRecursion (λ e. eq_by_cmp source_cmp q e.0 ≡ false) es

  both_of_others : (xs ys : List (Source × Standing)) → AreOfOthers xs → AreOfOthers ys → AreOfOthers (xs ++ ys)
  both_of_others [] ys a b = b
  both_of_others (x ∷ xs) ys a b = (a.0, both_of_others xs ys a.1 b)

  none_added : (es : List (Source × Standing)) (m : Standings) → AreOfOthers es → standing_from m q ≡ None →
      standing_from (added m es) q ≡ None
  none_added [] m others none = none
  none_added (e ∷ es) m others none =
      none_added es (with_standing e.0 e.1 m) others.1 (finite.get-insert source_total m.known e.0 e.1 q
      ∙ ap (λ b. cond b (Some e.1) (standing_from m q)) others.0 ∙ none)

  own_by : (here : Bool) (v : Standing) → eq_by_cmp source_cmp q Own ≡ false →
      AreOfOthers (if here then (Own, v) ∷ [] else [])
  own_by true v off = (off, tt)
  own_by false v off = tt

  module _ (site : SiteConf) (p : Prefix) (routes : List (Addr × Attr)) where
    over_if : (up : Bool) (e : Source × Standing) (es : List (Source × Standing)) → eq_by_cmp source_cmp q e.0 ≡ false →
        AreOfOthers es → AreOfOthers (cons_option (if up then Some e else None) es)
    over_if true e es off rest = (off, rest)
    over_if false e es off rest = rest

    over_one : (x : SiteSession) (route : Option Attr) (es : List (Source × Standing)) →
        (is_some route ≡ true → eq_by_cmp source_cmp q (FromPeer x.peer) ≡ false) → AreOfOthers es →
        AreOfOthers (cons_option (standing_over site p x route) es)
    over_one x None es off rest = rest
    over_one x (Some attr) es off rest = over_if x.up _ es (off refl) rest

    module _ (others : (u : Addr) → is_some (route_of routes u) ≡ true →
        eq_by_cmp source_cmp q (FromPeer u) ≡ false) where
      over_all : (xs : List SiteSession) → AreOfOthers (filter_map (standing_of site p routes) xs)
      over_all [] = tt
      over_all (x ∷ xs) = over_one x (route_of routes x.peer) (filter_map (standing_of site p routes) xs)
          (others x.peer) (over_all xs)

      none_stands : eq_by_cmp source_cmp q Own ≡ false → standing_from (standings_of site p routes) q ≡ None
      none_stands off =
          none_added (own_standings site p ++ filter_map (standing_of site p routes) site.sessions)
          (no_standings site.med_always)
          (both_of_others (own_standings site p) (filter_map (standing_of site p routes) site.sessions)
          (own_by (is_originated site p) _ off) (over_all site.sessions))
          (finite.get-empty source_cmp q)

-- who sent a route is a sender
is_sender : (u : Addr) (routes : List (Addr × Attr)) →
    list_any (eq_by_cmp source_cmp (FromPeer u)) (map (λ e. FromPeer e.0) routes) ≡ is_some (route_of routes u)
is_sender u [] = refl
is_sender u (e ∷ es) =
    elim (is_eq (addr_cmp u e.0)) as (λ b.
    (b || list_any (eq_by_cmp source_cmp (FromPeer u)) (map (λ x. FromPeer x.0) es))
    ≡ is_some (cond b (Some e.1) (route_of es u))) [ true ↦ refl | false ↦ is_sender u es ]

module _ (q : Source) (routes : List (Addr × Attr))
    (off : list_any (eq_by_cmp source_cmp q) (Own ∷ map (λ e. FromPeer e.0) routes) ≡ false) where
  not_own : eq_by_cmp source_cmp q Own ≡ false
  not_own = (or_parts (eq_by_cmp source_cmp q Own) _ off).0

  no_sender : (u : Addr) → is_some (route_of routes u) ≡ true → eq_by_cmp source_cmp q (FromPeer u) ≡ false
  no_sender u there =
      not_true (eq_by_cmp source_cmp q (FromPeer u)) (λ same.
      let is : q ≡ FromPeer u = same_source q (FromPeer u) (is_equal _ same) in
      true≢false (sym (is_sender u routes ∙ there)
      ∙ ap (λ s. list_any (eq_by_cmp source_cmp s) (map (λ e. FromPeer e.0) routes)) (sym is)
      ∙ (or_parts (eq_by_cmp source_cmp q Own) _ off).1))

  -- a source that neither is the router nor has sent a route has no standing
  no_standing : (site : Option SiteConf) (p : Prefix) → standing_from (decided site p routes).standings q ≡ None
  no_standing None p = finite.get-empty source_cmp q
  no_standing (Some site) p = none_stands q site p routes no_sender not_own

-- SOURCE BY SOURCE

all_above : (routes : List (Addr × Attr)) →
    AllByRecursion (λ s. source_cmp Own s ≡ Less) (map (λ e. FromPeer e.0) routes)
all_above [] = tt
all_above (e ∷ es) = (refl, all_above es)

past_sender : (u : Addr) (routes : List (Addr × Attr)) → AllByRecursion (λ v. addr_cmp u v ≡ Less) (keys_of routes) →
    AllByRecursion (λ s. source_cmp (FromPeer u) s ≡ Less) (map (λ e. FromPeer e.0) routes)
past_sender u [] h = tt
past_sender u (e ∷ es) h = (h.0, past_sender u es h.1)

senders_sorted : (routes : List (Addr × Attr)) → IsStrictlySortedBy addr_cmp (keys_of routes) →
    IsStrictlySortedBy source_cmp (map (λ e. FromPeer e.0) routes)
unfolding IsStrictlySortedBy
senders_sorted [] h = tt
senders_sorted (e ∷ es) h = (past_sender e.0 es h.0, senders_sorted es h.1)

sources_sorted : (h : Cell) → IsStrictlySortedBy addr_cmp (keys_of h.received) →
    IsStrictlySortedBy source_cmp (sources_in h)
unfolding IsStrictlySortedBy
sources_sorted h sorted = (all_above h.received, senders_sorted h.received sorted)

all_said : (routes : List (Source × Standing)) (m : Standings) →
    filter_map (λ e. Some (why m e)) routes ≡ map (why m) routes
all_said [] m = refl
all_said (e ∷ es) m = ap (λ l. why m e ∷ l) (all_said es m)

-- what is said of each source of a cell is what is said of each standing
by_sources : (site : Option SiteConf) (p : Prefix) (h : Cell) → h ≡ decided site p h.received →
    IsStrictlySortedBy addr_cmp (keys_of h.received) → reasons_in h ≡ reasons_of h.standings
by_sources site p h is sorted =
    let m : Standings = h.standings in
    let said : Source → Option Standing → Option (Source × Reason) =
    λ s o. option_map (λ reason. (s, reason)) (option_map (reason_for m.med_always (considered m)) o) in
    listed source_total same_source m.known (reason_at m) (λ e. Some (why m e))
    (λ s v at. ap (said s) at)
    (λ s none. ap (said s) none)
    (sources_in h) (sources_sorted h sorted)
    (λ s off. ap (said s) (ap (λ (x : Cell). standing_from x.standings s) is ∙ no_standing s h.received off site p))
    ∙ all_said (finite.entries m.known) m

-- THE ROUTER

at_node : (c : Configuration) (r : Addr) (p : Prefix) (ts : List (Addr × Table Cell)) →
    IsTrue (is_sorted addr_cmp ts) → (n : Option Node)
    → reasons_at p (all_entries ts) (option_map (site_at c r) n)
    ≡ reasons_of (decided (option_map (site_at c r) n) p (cell_at r p ts).received).standings
at_node c r p ts sorted None = sym (ap (map (why (no_standings false))) no_entries)
at_node c r p ts sorted (Some n) = sym (effective_reasons (standings (site_at c r n) p (all_entries ts)))
    ∙ ap reasons_of (standings_at_cell (site_at c r n) p ts sorted)

-- the routes that were heard are by sender
cell_in_order : (e : State) → IsConsistent e → (r : Addr) (p : Prefix) →
    IsStrictlySortedBy addr_cmp (keys_of (cell_at r p e.tables).received)
unfolding IsStrictlySortedBy
cell_in_order e sound r p =
    elim (value_at r p e.tables) as (λ x. value_at r p e.tables ≡ x →
    IsStrictlySortedBy addr_cmp (keys_of (unwrap_or x new_cell).received)) [
      | None ↦ λ is. tt
      | Some h ↦ λ is. (is_cell e sound r p h is).by_sender
    ] refl

-- why routes were chosen or dropped is said of each source of the cell, in order
pub reasons_by_cell : (e : State) → IsConsistent e → (r : Addr) (p : Prefix) → is_virtual e.conf r ≡ false →
    reasons (network e) r p ≡ reasons_in (cell_at r p e.tables)
unfolding reasons network site_of
reasons_by_cell e sound r p router =
    at_node e.conf r p e.tables sound.by_address (node_at e.conf r)
    ∙ ap (λ b. reasons_of (decided (cond b None (site_of e.conf r)) p (cell_at r p e.tables).received).standings)
    (sym router)
    ∙ ap (λ (h : Cell). reasons_of h.standings) (sym (cell_decided e sound r p))
    ∙ sym (by_sources (router_site e.conf r) p (cell_at r p e.tables) (cell_decided e sound r p)
    (cell_in_order e sound r p))
