-- What a router has received from one peer, read off its cells.
use Rattle.std.proofs.Common.{◌≡◌, false, cond, ◌&&◌, List, [], ◌∷◌, ◌++◌, map, Option, Some, None, option_map, IsTrue, unwrap_or, if◌then◌else◌, refl, sym, ap, subst, ◌∙◌, append-nil}
use Rattle.std.proofs.lemmas.Cmp.{nat_eq_equiv}
use Rattle.std.proofs.lemmas.List.{map-append}
use Rattle.std.proofs.lemmas.List.Elements.{filter-append}
use Rattle.std.specs.declared.cmp.Ordering.{Ordering}
use Rattle.std.specs.declared.cmp.Ordering.TheVariants.{Less, Equal, Greater}
use Rattle.std.specs.Ordering.{is_eq}
use Rattle.std.specs.Cmp.{unsigned_ties}
use Rattle.std.specs.Option.{option_to_list}
use Rattle.std.specs.List.{AllByRecursion, filter_map, cons_option}
use Rattle.std.specs.List.Sorted.{IsStrictlySortedBy}
use Rattle.std.specs.Map.{keys_of}
use Rattle.std.specs.FinMap as finite
use Rattle.std.specs.FinMap.Entries.{is_sorted, find}
use Rattle.net_prefix.specs.declared.addr.Addr.{Addr}
use Rattle.net_prefix.specs.Address.{same_addr, addr_cmp}
use Rattle.net_prefix.specs.Prefix.{Prefix}
use Rattle.net_prefix.specs.Orders.{addr_total, addr_exact}
use Rattle.path_attr.specs.declared.attr.Attr.{Attr}
use Rattle.prefix_table.specs.Tables.{Table}
use Rattle.net_conf.specs.Configuration.{Configuration}
use Rattle.net_conf.specs.Costs.{is_up}
use Rattle.reference_machine.specs.declared.rows.RouteKey.{RouteKey}
use Rattle.reference_machine.specs.Network.{is_between, routes_from}
use Rattle.reference_machine.specs.Reports.{adj_rib_in}
use Rattle.cell_engine.specs.Cells.{Cell, route_of}
use Rattle.cell_engine.specs.State.{State, IsConsistent, IsCell, network, entry_of, cell_entries, list_entries, table_entries, all_entries}
use Rattle.cell_engine.specs.Reporting.{cells_of, route_in, received_from}
use Rattle.cell_engine.proofs.Chunks.{T_of, Each, each_append, IsLook, IsChunked, chunk, flat_at}
use Rattle.cell_engine.proofs.Decided.{cells_at}
use Rattle.cell_engine.proofs.Flat.{no_cells}
use Rattle.cell_engine.proofs.Offers.{same_addr_itself}

module _ (r u : Addr) where
  -- THE ROUTER'S TABLE

  -- an entry, seen from the router
  abbrev from_router : RouteKey × Attr → Ordering
  from_router e = addr_cmp r e.0.to

  tied : (v w : Addr) → same_addr w v ≡ is_eq (addr_cmp v w)
  tied v w = nat_eq_equiv.symm w.0 v.0 ∙ unsigned_ties v.0 w.0

  none_of_others : (o : Ordering) → is_eq o ≡ false → (es : List (RouteKey × Attr)) → Each from_router o es →
      routes_from r u es ≡ []
  none_of_others o other [] h = refl
  none_of_others o other (e ∷ es) h =
      ap (λ b. cond (b && same_addr e.0.from u) (e ∷ routes_from r u es) (routes_from r u es)) (tied r e.0.to
      ∙ ap is_eq h.0 ∙ other)
      ∙ none_of_others o other es h.1

  routes_look : IsLook from_router (routes_from r u)
  routes_look = record {
    before = λ xs ys h. filter-append (is_between r u) xs ys
        ∙ ap (λ l. l ++ routes_from r u ys) (none_of_others Greater refl xs h);
    past = λ xs ys h. filter-append (is_between r u) xs ys
        ∙ ap (λ l. routes_from r u xs ++ l) (none_of_others Less refl ys h) ∙ append-nil (routes_from r u xs);
  }

  side_of_cell : (o : Ordering) (s : Addr) (p : Prefix) → addr_cmp r s ≡ o → (es : List (Addr × Attr)) →
      Each from_router o (map (entry_of s p) es)
  side_of_cell o s p is [] = tt
  side_of_cell o s p is (e ∷ es) = (is, side_of_cell o s p is es)

  side_of_cells : (o : Ordering) (s : Addr) → addr_cmp r s ≡ o → (cells : List (Prefix × Cell)) →
      Each from_router o (list_entries s cells)
  side_of_cells o s is [] = tt
  side_of_cells o s is (e ∷ es) = each_append from_router o (cell_entries s e.0 e.1) (list_entries s es)
      (side_of_cell o s e.0 is e.1.received) (side_of_cells o s is es)

  by_router : IsChunked from_router addr_cmp table_entries r
  by_router = record {
    total = addr_total;
    exact = addr_exact;
    less = λ s t is. side_of_cells Less s is (finite.entries t);
    greater = λ s t is. side_of_cells Greater s is (finite.entries t);
  }

  in_table : (t : Option (Table Cell)) →
      routes_from r u (chunk table_entries r t)
      ≡ routes_from r u (list_entries r (finite.entries (unwrap_or t finite.empty)))
  in_table None = ap (λ cells. routes_from r u (list_entries r cells)) (sym no_cells)
  in_table (Some t) = refl

  -- what the router has received stands in its own cells
  in_own_cells : (ts : List (Addr × Table Cell)) → IsTrue (is_sorted addr_cmp ts) →
      routes_from r u (all_entries ts) ≡ routes_from r u (list_entries r (cells_of r ts))
  in_own_cells ts sorted = flat_at by_router routes_look ts (T_of _ sorted) ∙ in_table (find addr_cmp r ts)

  -- ONE CELL

  abbrev shown : RouteKey × Attr → Prefix × Attr
  shown e = (e.0.prefix, e.1)

  -- an entry of the router's is from the peer where its sender is
  is_from : (v : Addr) → (same_addr r r && same_addr v u) ≡ is_eq (addr_cmp u v)
  is_from v = ap (λ b. b && same_addr v u) (same_addr_itself r) ∙ tied u v

  none_past : (p : Prefix) (es : List (Addr × Attr)) → AllByRecursion (λ v. addr_cmp u v ≡ Less) (keys_of es) →
      routes_from r u (map (entry_of r p) es) ≡ []
  none_past p [] h = refl
  none_past p (e ∷ es) h =
      ap (λ b. cond b (entry_of r p e ∷ routes_from r u (map (entry_of r p) es))
      (routes_from r u (map (entry_of r p) es))) (is_from e.0 ∙ ap is_eq h.0)
      ∙ none_past p es h.1

  -- a cell has one route from the peer at most
  in_cell : (p : Prefix) (es : List (Addr × Attr)) → IsStrictlySortedBy addr_cmp (keys_of es) →
      map shown (routes_from r u (map (entry_of r p) es))
      ≡ option_to_list (option_map (λ attr. (p, attr)) (route_of es u))
  unfolding IsStrictlySortedBy
  in_cell p [] h = refl
  in_cell p (e ∷ es) h =
      let rest = routes_from r u (map (entry_of r p) es) in
      ap (λ b. map shown (cond b (entry_of r p e ∷ rest) rest)) (is_from e.0)
      ∙ elim (addr_cmp u e.0) as (λ o. addr_cmp u e.0 ≡ o → map shown (cond (is_eq o) (entry_of r p e ∷ rest) rest)
      ≡ option_to_list (option_map (λ attr. (p, attr)) (cond (is_eq o) (Some e.1) (route_of es u)))) [
        | Less ↦ λ is. in_cell p es h.1
        | Equal ↦ λ is. ap (λ l. (p, e.1) ∷ map shown l)
            (none_past p es (subst (λ x. AllByRecursion (λ v. addr_cmp x v ≡ Less) (keys_of es))
            (sym (addr_exact u e.0 is)) h.0))
        | Greater ↦ λ is. in_cell p es h.1
      ] refl

  one_or_none : {A : Type 0} (x : Option A) (l : List A) → (option_to_list x ++ l) ≡ cons_option x l
  one_or_none None l = refl
  one_or_none (Some a) l = refl

  in_cells : (c : Configuration) (cells : List (Prefix × Cell)) → AllByRecursion (λ e. IsCell c r e.0 e.1) cells →
      map shown (routes_from r u (list_entries r cells)) ≡ filter_map (route_in u) cells
  in_cells c [] all = refl
  in_cells c (e ∷ es) all =
      ap (map shown) (filter-append (is_between r u) (cell_entries r e.0 e.1) (list_entries r es))
      ∙ map-append shown (routes_from r u (cell_entries r e.0 e.1)) (routes_from r u (list_entries r es))
      ∙ (λ i. in_cell e.0 e.1.received all.0.by_sender i ++ in_cells c es all.1 i)
      ∙ one_or_none (route_in u e) (filter_map (route_in u) es)

-- the Adj-RIB-In of a peer has the route from it of each cell, also at a virtual peer
pub adj_rib_in_by_cells : (e : State) → IsConsistent e → (r u : Addr) →
    adj_rib_in (network e) r u ≡ received_from e.conf r u e.tables
unfolding adj_rib_in network
adj_rib_in_by_cells e sound r u =
    ap (λ l. if is_up e.conf r u then l else []) (ap (map (shown r u)) (in_own_cells r u e.tables sound.by_address)
    ∙ in_cells r u e.conf (cells_of r e.tables) (cells_at e.conf r e.tables sound.cells))
