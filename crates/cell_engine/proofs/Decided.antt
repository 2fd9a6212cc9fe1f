-- What routers have decided: how routes stand in their cells, and what stays sound when one cell changes.
use Rattle.std.proofs.Common.{◌≡◌, Bool, true, false, cond, ◌&&◌, ◌||◌, ◌==◌, List, [], ◌∷◌, ◌++◌, map, filter, Option, Some, None, option_map, option_and_then, is_some, IfSome, IsTrue, unwrap_or, refl, sym, ap, subst, ◌∙◌}
use Rattle.std.proofs.lemmas.Bool.{true≢false}
use Rattle.std.proofs.lemmas.Cmp.{nat_eq_equiv}
use Rattle.std.proofs.lemmas.Map.Lookups.{CmpEqualImpliesEq}
use Rattle.std.specs.declared.cmp.Ordering.{Ordering}
use Rattle.std.specs.declared.cmp.Ordering.TheVariants.{Less, Equal, Greater}
use Rattle.std.specs.Ordering.{is_eq, eq_by_cmp}
use Rattle.std.specs.Cmp.{both_tied, unsigned_ties}
use Rattle.std.specs.List.{AllByRecursion, list_any, filter_map}
use Rattle.std.specs.List.Sorted.{IsStrictlySortedBy}
use Rattle.std.specs.Map.{keys_of}
use Rattle.std.specs.BTreeMap.{is_at}
use Rattle.std.specs.FinMap as finite
use Rattle.std.specs.FinMap.Entries as entries
use Rattle.net_prefix.specs.declared.addr.Addr.{Addr}
use Rattle.net_prefix.specs.Address.{addr_cmp}
use Rattle.net_prefix.specs.Prefix.{Prefix, prefix_cmp, same_prefix}
use Rattle.net_prefix.specs.Orders.{addr_total, addr_exact, prefix_total, prefix_exact}
use Rattle.path_attr.specs.declared.attr.Attr.{Attr}
use Rattle.prefix_table.specs.Tables.{Table}
use Rattle.net_conf.specs.Configuration.{Configuration, node_at, is_virtual, originates, origins_of, origination_cmp}
use Rattle.net_conf.specs.RouterSites.{router_site}
use Rattle.net_conf.specs.Sites.{site_at, site_of}
use Rattle.net_conf.specs.declared.tables.Node.{Node}
use Rattle.net_conf.specs.declared.tables.Origination.{Origination}
use Rattle.net_conf.specs.declared.site.SiteConf.{SiteConf}
use Rattle.net_conf.specs.declared.site.SiteSession.{SiteSession}
use Rattle.route_select.specs.declared.candidate.Source.TheVariants.{Own}
use Rattle.route_select.specs.declared.candidate.Standing.TheVariants.{Considered}
use Rattle.route_select.specs.Selection.{no_standings, best_of, best_among, considered_in}
use Rattle.reference_machine.specs.Decision.{own_candidate, own_standings, is_originated, standing_over, added, standings, best}
use Rattle.cell_engine.specs.RouterTables.{table_at, value_at, with_value}
use Rattle.cell_engine.specs.Cells.{Cell, new_cell, effective, standing_of, standings_of, decided}
use Rattle.cell_engine.specs.State.{State, cell_at, all_entries, queue_of, network, IsCell, IsTable, IsConsistent}
use Rattle.cell_engine.proofs.Chunks.{T_of, of_T}
use Rattle.cell_engine.proofs.Effective.{no_entries, effective_none, effective_best}
use Rattle.cell_engine.proofs.Flat.{no_cells}
use Rattle.cell_engine.proofs.Received.{route_in_cell, entries_with_empty_cell}

-- STANDINGS

-- how routes stand in the network is how the routes of the cell stand
pub standings_at_cell : (site : SiteConf) (p : Prefix) (ts : List (Addr × Table Cell)) →
    IsTrue (entries.is_sorted addr_cmp ts) → effective (standings site p (all_entries ts))
    ≡ standings_of site p (cell_at site.me p ts).received
standings_at_cell site p ts sorted =
    λ i. effective (added (no_standings site.med_always)
    (own_standings site p ++ filter_map
    (λ from. standing_over site p from (route_in_cell ts sorted site.me p from.peer i)) site.sessions))

-- nothing stands where nothing was received and nothing is originated
none_stand : (site : SiteConf) (p : Prefix) (xs : List SiteSession) → filter_map (standing_of site p []) xs ≡ []
none_stand site p [] = refl
none_stand site p (x ∷ xs) = none_stand site p xs

pub nothing_stands : (site : SiteConf) (p : Prefix) → is_originated site p ≡ false →
    standings_of site p [] ≡ no_standings false
nothing_stands site p own =
    (λ i. effective (added (no_standings site.med_always)
    (cond (own i) ((Own, Considered (own_candidate site.me)) ∷ []) [] ++ none_stand site p site.sessions i)))
    ∙ effective_none site.med_always

-- ORIGINS

origin_tied : (r : Addr) (p : Prefix) (o : Origination) → is_at (origination_cmp (record { router = r; prefix = p })) o
    ≡ (o.router.0 == r.0 && same_prefix p o.prefix)
origin_tied r p o =
    sym (both_tied (r.0 == o.router.0) (same_prefix p o.prefix) (addr_cmp r o.router) (prefix_cmp p o.prefix)
    (unsigned_ties r.0 o.router.0) (both_tied _ _ _ _ (unsigned_ties p.addr.0 o.prefix.addr.0)
    (unsigned_ties p.len o.prefix.len)))
    ∙ ap (λ b. b && same_prefix p o.prefix) (nat_eq_equiv.symm r.0 o.router.0)

among : (r : Addr) (p : Prefix) (os : List Origination) →
    list_any (same_prefix p) (map (λ o. o.prefix) (filter (λ o. o.router.0 == r.0) os))
    ≡ list_any (is_at (origination_cmp (record { router = r; prefix = p }))) os
among r p [] = refl
among r p (o ∷ os) =
    elim (o.router.0 == r.0) as (λ b.
    list_any (same_prefix p)
    (map (λ o. o.prefix) (cond b (o ∷ filter (λ o. o.router.0 == r.0) os) (filter (λ o. o.router.0 == r.0) os)))
    ≡ ((b && same_prefix p o.prefix)
    || list_any (is_at (origination_cmp (record { router = r; prefix = p }))) os)) [
      | true ↦ ap (λ b. same_prefix p o.prefix || b) (among r p os)
      | false ↦ among r p os
    ]
    ∙ ap (λ b. b || list_any (is_at (origination_cmp (record { router = r; prefix = p }))) os) (sym (origin_tied r p o))

-- the prefixes of a site are those that its router originates
pub originated_is : (c : Configuration) (r : Addr) (p : Prefix) →
    list_any (same_prefix p) (origins_of c r) ≡ originates c r p
originated_is c r p = among r p c.origins

-- CELLS

nothing_decided_at : (c : Configuration) (r : Addr) (p : Prefix) → originates c r p ≡ false → (n : Option Node) →
    new_cell ≡ decided (option_map (site_at c r) n) p []
nothing_decided_at c r p own None = refl
nothing_decided_at c r p own (Some n) = ap (λ s. record { received = []; standings = s })
    (sym (nothing_stands (site_at c r n) p (originated_is c r p ∙ own)))

-- what was decided of nothing
nothing_decided : (c : Configuration) (r : Addr) (p : Prefix) → originates c r p ≡ false →
    new_cell ≡ decided (router_site c r) p []
unfolding site_of
nothing_decided c r p own =
    elim (is_virtual c r) as (λ b. new_cell ≡ decided (cond b None (site_of c r)) p []) [
      | true ↦ refl
      | false ↦ nothing_decided_at c r p own (node_at c r)
    ]

-- the routes stay
pub decided_received : (site : Option SiteConf) (p : Prefix) (routes : List (Addr × Attr)) →
    (decided site p routes).received ≡ routes
decided_received None p routes = refl
decided_received (Some site) p routes = refl

-- what the router decides of routes by sender is a cell of its own
pub decided_cell : (c : Configuration) (r : Addr) (p : Prefix) (routes : List (Addr × Attr)) →
    IsStrictlySortedBy addr_cmp (keys_of routes) → IsCell c r p (decided (router_site c r) p routes)
decided_cell c r p routes h =
    let same = decided_received (router_site c r) p routes in
    record {
      by_sender = subst (λ es. IsStrictlySortedBy addr_cmp (keys_of es)) (sym same) h;
      decided = ap (decided (router_site c r) p) (sym same);
    }

-- and so is an empty one, for a prefix that it does not originate
pub empty_cell : (c : Configuration) (r : Addr) (p : Prefix) → originates c r p ≡ false → IsCell c r p new_cell
unfolding IsStrictlySortedBy
empty_cell c r p own = record { by_sender = tt; decided = nothing_decided c r p own }

-- ENTRIES IN PLACES

module _ {K X : Type 0} {R : K → K → Ordering} (exact : CmpEqualImpliesEq R) (P : K × X → Type 0) where
  all_put : (k : K) (v : X) (es : List (K × X)) → P (k, v) → AllByRecursion P es →
      AllByRecursion P (entries.put R k v es)
  all_put k v [] is all = (is, tt)
  all_put k v (e ∷ es) is all =
      elim (R k e.0) as (λ o. R k e.0 ≡ o →
      AllByRecursion P (entries.by_order o ((k, v) ∷ e ∷ es) ((e.0, v) ∷ es) (e ∷ entries.put R k v es))) [
        | Less ↦ λ q. (is, all)
        | Equal ↦ λ q. (subst (λ x. P (x, v)) (exact k e.0 q) is, all.1)
        | Greater ↦ λ q. (all.0, all_put k v es is all.1)
      ] refl

  all_find : (k : K) (es : List (K × X)) → AllByRecursion P es → IfSome (entries.find R k es) (λ v. P (k, v))
  all_find k [] all = tt
  all_find k (e ∷ es) all =
      elim (R k e.0) as (λ o. R k e.0 ≡ o → IfSome (cond (is_eq o) (Some e.1) (entries.find R k es)) (λ v. P (k, v))) [
        | Less ↦ λ q. all_find k es all.1
        | Equal ↦ λ q. subst (λ x. P (x, e.1)) (sym (exact k e.0 q)) all.0
        | Greater ↦ λ q. all_find k es all.1
      ] refl

table_or_empty : (c : Configuration) (r : Addr) (x : Option (Table Cell)) → IfSome x (λ t. IsTable c (r, t)) →
    IsTable c (r, unwrap_or x finite.empty)
table_or_empty c r None is = subst (AllByRecursion (λ e. IsCell c r e.0 e.1)) (sym no_cells) tt
table_or_empty c r (Some t) is = is

-- a router's cells are its own
pub cells_at : (c : Configuration) (r : Addr) (ts : List (Addr × Table Cell)) → AllByRecursion (IsTable c) ts →
    IsTable c (r, table_at r ts)
cells_at c r ts all = table_or_empty c r (entries.find addr_cmp r ts) (all_find addr_exact (IsTable c) r ts all)

found_cell : (c : Configuration) (r : Addr) (p : Prefix) (ts : List (Addr × Table Cell)) →
    AllByRecursion (IsTable c) ts → IfSome (value_at r p ts) (IsCell c r p)
found_cell c r p ts all =
    subst (λ x. IfSome x (IsCell c r p)) (sym (finite.get-entries (table_at r ts) p))
    (all_find prefix_exact (λ e. IsCell c r e.0 e.1) p (finite.entries (table_at r ts)) (cells_at c r ts all))

-- what stands in the tables at a router and prefix, once a cell has been put in
pub value_with_cell : (r : Addr) (p : Prefix) (h : Cell) (ts : List (Addr × Table Cell)) (s : Addr) (q : Prefix) →
    value_at s q (with_value r p h ts) ≡ cond (eq_by_cmp addr_cmp s r)
    (cond (eq_by_cmp prefix_cmp q p) (Some h) (value_at s q ts)) (value_at s q ts)
value_with_cell r p h ts s q =
    ap (λ t. finite.get (unwrap_or t finite.empty) q)
    (entries.find-put addr_cmp addr_total s r (finite.insert (table_at r ts) p h) ts)
    ∙ elim (addr_cmp s r) as (λ o. addr_cmp s r ≡ o →
    finite.get (unwrap_or (cond (is_eq o) (Some (finite.insert (table_at r ts) p h)) (entries.find addr_cmp s ts))
    finite.empty) q ≡ cond (is_eq o) (cond (eq_by_cmp prefix_cmp q p) (Some h) (value_at s q ts))
    (value_at s q ts)) [
      | Less ↦ λ e. refl
      | Equal ↦ λ e. finite.get-insert prefix_total (table_at r ts) p h q
          ∙ ap (λ x. cond (eq_by_cmp prefix_cmp q p) (Some h) (value_at x q ts)) (sym (addr_exact s r e))
      | Greater ↦ λ e. refl
    ] refl

-- one table an address still, by address
pub by_address_with_cell : (r : Addr) (p : Prefix) (h : Cell) (ts : List (Addr × Table Cell)) →
    IsTrue (entries.is_sorted addr_cmp ts) → IsTrue (entries.is_sorted addr_cmp (with_value r p h ts))
by_address_with_cell r p h ts sorted =
    of_T _ (entries.is_sorted-put addr_cmp addr_total r (finite.insert (table_at r ts) p h) ts (T_of _ sorted))

-- SOUND ENGINES

-- a cell of a sound engine
pub is_cell : (e : State) → IsConsistent e → (r : Addr) (p : Prefix) (h : Cell) → value_at r p e.tables ≡ Some h →
    IsCell e.conf r p h
is_cell e sound r p h is = subst (λ x. IfSome x (IsCell e.conf r p)) is (found_cell e.conf r p e.tables sound.cells)

not_originated_by : (known : Bool) (e : State) → IsConsistent e → (r : Addr) (p : Prefix) →
    value_at r p e.tables ≡ None → originates e.conf r p ≡ known → known ≡ false
not_originated_by true e sound r p none own = absurd (true≢false (sym (sound.origins r p own) ∙ ap is_some none))
not_originated_by false e sound r p none own = refl

-- a prefix for which a router has no cell is not originated there
pub not_originated : (e : State) → IsConsistent e → (r : Addr) (p : Prefix) → value_at r p e.tables ≡ None →
    originates e.conf r p ≡ false
not_originated e sound r p none = not_originated_by (originates e.conf r p) e sound r p none refl

-- what was heard was decided by the site of the router, be there a cell or none
pub cell_decided : (e : State) → IsConsistent e → (r : Addr) (p : Prefix) →
    cell_at r p e.tables ≡ decided (router_site e.conf r) p (cell_at r p e.tables).received
cell_decided e sound r p =
    elim (value_at r p e.tables) as (λ x. value_at r p e.tables ≡ x →
    unwrap_or x new_cell ≡ decided (router_site e.conf r) p (unwrap_or x new_cell).received) [
      | None ↦ λ is. nothing_decided e.conf r p (not_originated e sound r p is)
      | Some h ↦ λ is. (is_cell e sound r p h is).decided
    ] refl

-- nothing is chosen where nothing stands
pub none_best : best_of (no_standings false) ≡ None
unfolding best_among
none_best = ap (λ es. best_among false (considered_in es)) no_entries

best_at : (c : Configuration) (r : Addr) (p : Prefix) (ts : List (Addr × Table Cell)) →
    IsTrue (entries.is_sorted addr_cmp ts) → (n : Option Node)
    → option_and_then (λ site. best_of (standings site p (all_entries ts))) (option_map (site_at c r) n)
    ≡ best_of (decided (option_map (site_at c r) n) p (cell_at r p ts).received).standings
best_at c r p ts sorted None = sym none_best
best_at c r p ts sorted (Some n) = sym (effective_best (standings (site_at c r n) p (all_entries ts)))
    ∙ ap best_of (standings_at_cell (site_at c r n) p ts sorted)

-- the route that a router chooses is the best that stands in its cell
pub best_in_cell : (e : State) → IsConsistent e → (r : Addr) (p : Prefix) → is_virtual e.conf r ≡ false →
    best (network e) r p ≡ best_of (cell_at r p e.tables).standings
unfolding best network site_of
best_in_cell e sound r p router =
    best_at e.conf r p e.tables sound.by_address (node_at e.conf r)
    ∙ ap (λ b. best_of (decided (cond b None (site_of e.conf r)) p (cell_at r p e.tables).received).standings)
    (sym router)
    ∙ ap (λ (h : Cell). best_of h.standings) (sym (cell_decided e sound r p))

pub still_there : (b c : Bool) (h : Cell) (x : Option Cell) → is_some x ≡ true →
    is_some (cond b (cond c (Some h) x) x) ≡ true
still_there true true h x is = refl
still_there true false h x is = is
still_there false c h x is = is

-- a cell in place of another leaves the engine sound
pub sound_with_cell : (e : State) → IsConsistent e → (r : Addr) (p : Prefix) (h : Cell) → IsCell e.conf r p h →
    IsConsistent (record e { tables = with_value r p h e.tables })
sound_with_cell e sound r p h is =
    let new = finite.insert (table_at r e.tables) p h in
    record {
      by_address = by_address_with_cell r p h e.tables sound.by_address;
      cells = all_put addr_exact (IsTable e.conf) r new e.tables
          (subst (AllByRecursion (λ c. IsCell e.conf r c.0 c.1))
          (sym (finite.entries-insert prefix_total (table_at r e.tables) p h))
          (all_put prefix_exact (λ c. IsCell e.conf r c.0 c.1) p h (finite.entries (table_at r e.tables)) is
          (cells_at e.conf r e.tables sound.cells)))
          sound.cells;
      origins = λ s q own. ap is_some (value_with_cell r p h e.tables s q)
          ∙ still_there _ _ h (value_at s q e.tables) (sound.origins s q own);
      in_order = sound.in_order;
      sessions = sound.sessions;
      silent = sound.silent;
    }

-- nor is an empty cell, where there was none, seen by the network
pub network_with_empty_cell : (e : State) → IsConsistent e → (r : Addr) (p : Prefix) → value_at r p e.tables ≡ None →
    network (record e { tables = with_value r p new_cell e.tables }) ≡ network e
unfolding network
network_with_empty_cell e sound r p none =
    ap (λ es. record { conf = e.conf; received = es; queues = map (queue_of e.queues) e.directions })
    (entries_with_empty_cell e.tables sound.by_address r p none)

pub sound_with_empty_cell : (e : State) → IsConsistent e → (r : Addr) (p : Prefix) → value_at r p e.tables ≡ None →
    IsConsistent (record e { tables = with_value r p new_cell e.tables })
sound_with_empty_cell e sound r p none =
    sound_with_cell e sound r p new_cell (empty_cell e.conf r p (not_originated e sound r p none))
