-- What an edit keeps: the tables with each cell decided anew are the network's received routes over sessions that are
-- up.
use Rattle.std.proofs.Common.{◌≡◌, Bool, true, false, cond, ◌&&◌, List, [], ◌∷◌, ◌++◌, map, filter, Option, Some, None, option_map, is_some, IsTrue, unwrap_or, refl, sym, ap, subst, ◌∙◌}
use Rattle.std.proofs.lemmas.List.Elements.{filter-append}
use Rattle.std.proofs.lemmas.Map.Lookups.{CmpEqualImpliesEq}
use Rattle.std.specs.declared.cmp.Ordering.{Ordering}
use Rattle.std.specs.declared.cmp.Ordering.TheVariants.{Less, Equal, Greater}
use Rattle.std.specs.Ordering.{is_lt, is_eq}
use Rattle.std.specs.List.{AllByRecursion}
use Rattle.std.specs.List.Sorted.{IsStrictlySortedBy}
use Rattle.std.specs.Map.{keys_of}
use Rattle.std.specs.FinMap as finite
use Rattle.std.specs.FinMap.Entries as entries
use Rattle.net_prefix.specs.declared.addr.Addr.{Addr}
use Rattle.net_prefix.specs.Address.{addr_cmp}
use Rattle.net_prefix.specs.Prefix.{Prefix, prefix_cmp}
use Rattle.net_prefix.specs.Orders.{addr_exact, prefix_exact}
use Rattle.path_attr.specs.declared.attr.Attr.{Attr}
use Rattle.prefix_table.specs.Tables.{Table}
use Rattle.net_conf.specs.Configuration.{Configuration, originates}
use Rattle.net_conf.specs.Costs.{is_up}
use Rattle.reference_machine.specs.Machine.{is_kept}
use Rattle.cell_engine.specs.RouterTables.{value_at}
use Rattle.cell_engine.specs.Cells.{Cell}
use Rattle.cell_engine.specs.State.{entry_of, cell_entries, list_entries, table_entries, all_entries, IsCell, IsTable}
use Rattle.cell_engine.specs.Keeping.{kept_from, kept_cell, kept_cells, kept_table, kept_tables}
use Rattle.cell_engine.proofs.Chunks.{T_of, of_T}
use Rattle.cell_engine.proofs.Decided.{decided_received, decided_cell}

-- LISTS WITH OTHER VALUES

module _ {K X : Type 0} (R : K → K → Ordering) (f : K → X → X) where
  abbrev pub revalued : List (K × X) → List (K × X)
  revalued es = map (λ e. (e.0, f e.0 e.1)) es

  below_revalued : (k : K) (es : List (K × X)) → entries.below_all R k (revalued es) ≡ entries.below_all R k es
  below_revalued k [] = refl
  below_revalued k (e ∷ es) = ap (λ b. is_lt (R k e.0) && b) (below_revalued k es)

  -- the order is of the keys
  pub sorted_revalued : (es : List (K × X)) → entries.is_sorted R (revalued es) ≡ entries.is_sorted R es
  sorted_revalued [] = refl
  sorted_revalued (e ∷ es) = λ i. below_revalued e.0 es i && sorted_revalued es i

  -- what is found is the other value
  pub find_revalued : CmpEqualImpliesEq R → (k : K) (es : List (K × X)) →
      entries.find R k (revalued es) ≡ option_map (f k) (entries.find R k es)
  find_revalued exact k [] = refl
  find_revalued exact k (e ∷ es) =
      elim (R k e.0) as (λ o. R k e.0 ≡ o → cond (is_eq o) (Some (f e.0 e.1)) (entries.find R k (revalued es))
      ≡ option_map (f k) (cond (is_eq o) (Some e.1) (entries.find R k es))) [
        | Less ↦ λ q. find_revalued exact k es
        | Equal ↦ λ q. ap (λ x. Some (f x e.1)) (sym (exact k e.0 q))
        | Greater ↦ λ q. find_revalued exact k es
      ] refl

-- ENTRIES

module _ (c : Configuration) where
  kept_routes_of : (r : Addr) (p : Prefix) (routes : List (Addr × Attr)) →
      map (entry_of r p) (kept_from c r routes) ≡ filter (is_kept c) (map (entry_of r p) routes)
  kept_routes_of r p [] = refl
  kept_routes_of r p (e ∷ es) =
      elim (is_up c e.0 r) as (λ b. map (entry_of r p) (cond b (e ∷ kept_from c r es) (kept_from c r es))
      ≡ cond b (entry_of r p e ∷ filter (is_kept c) (map (entry_of r p) es))
      (filter (is_kept c) (map (entry_of r p) es))) [
        | true ↦ ap (λ l. entry_of r p e ∷ l) (kept_routes_of r p es)
        | false ↦ kept_routes_of r p es
      ]

  cell_kept : (r : Addr) (p : Prefix) (h : Cell) →
      cell_entries r p (kept_cell c r p h) ≡ filter (is_kept c) (cell_entries r p h)
  cell_kept r p h = ap (map (entry_of r p)) (decided_received _ p (kept_from c r h.received))
      ∙ kept_routes_of r p h.received

  cells_kept : (r : Addr) (cells : List (Prefix × Cell)) →
      list_entries r (kept_cells c r cells) ≡ filter (is_kept c) (list_entries r cells)
  cells_kept r [] = refl
  cells_kept r (e ∷ es) = (λ i. cell_kept r e.0 e.1 i ++ cells_kept r es i)
      ∙ sym (filter-append (is_kept c) (cell_entries r e.0 e.1) (list_entries r es))

  entries_of_kept : (r : Addr) (t : Table Cell) → finite.entries (kept_table c r t) ≡ kept_cells c r (finite.entries t)
  entries_of_kept r t = finite.entries-from_sorted prefix_cmp (kept_cells c r (finite.entries t))
      (T_of _ (sorted_revalued prefix_cmp (kept_cell c r) (finite.entries t) ∙ of_T _ (finite.entries_sorted t)))

  table_kept : (r : Addr) (t : Table Cell) → table_entries r (kept_table c r t) ≡ filter (is_kept c) (table_entries r t)
  table_kept r t = ap (list_entries r) (entries_of_kept r t) ∙ cells_kept r (finite.entries t)

  -- the routes in the tables that are kept are those that the network keeps
  pub entries_kept : (ts : List (Addr × Table Cell)) →
      all_entries (kept_tables c ts) ≡ filter (is_kept c) (all_entries ts)
  entries_kept [] = refl
  entries_kept (t ∷ ts) = (λ i. table_kept t.0 t.1 i ++ entries_kept ts i)
      ∙ sym (filter-append (is_kept c) (table_entries t.0 t.1) (all_entries ts))

  -- CELLS

  cell_of_kept : (r : Addr) (p : Prefix) (t : Table Cell) →
      finite.get (kept_table c r t) p ≡ option_map (kept_cell c r p) (finite.get t p)
  cell_of_kept r p t =
      finite.get-entries (kept_table c r t) p
      ∙ ap (entries.find prefix_cmp p) (entries_of_kept r t)
      ∙ find_revalued prefix_cmp (kept_cell c r) prefix_exact p (finite.entries t)
      ∙ ap (option_map (kept_cell c r p)) (sym (finite.get-entries t p))

  value_or_none : (r : Addr) (p : Prefix) (x : Option (Table Cell)) →
      finite.get (unwrap_or (option_map (kept_table c r) x) finite.empty) p ≡ option_map (kept_cell c r p)
      (finite.get (unwrap_or x finite.empty) p)
  value_or_none r p None = finite.get-empty prefix_cmp p
      ∙ ap (option_map (kept_cell c r p)) (sym (finite.get-empty prefix_cmp p))
  value_or_none r p (Some t) = cell_of_kept r p t

  -- each cell is the one that is kept of it, and no other is there
  pub value_kept : (r : Addr) (p : Prefix) (ts : List (Addr × Table Cell)) →
      value_at r p (kept_tables c ts) ≡ option_map (kept_cell c r p) (value_at r p ts)
  value_kept r p ts =
      ap (λ x. finite.get (unwrap_or x finite.empty) p) (find_revalued addr_cmp (kept_table c) addr_exact r ts)
      ∙ value_or_none r p (entries.find addr_cmp r ts)

  -- WHAT HOLDS OF THEM

  pub by_address_kept : (ts : List (Addr × Table Cell)) → IsTrue (entries.is_sorted addr_cmp ts) →
      IsTrue (entries.is_sorted addr_cmp (kept_tables c ts))
  by_address_kept ts sorted = sorted_revalued addr_cmp (kept_table c) ts ∙ sorted

  mapped_there : {A B : Type 0} (f : A → B) (x : Option A) → is_some x ≡ true → is_some (option_map f x) ≡ true
  mapped_there f None is = is
  mapped_there f (Some a) is = refl

  pub origins_kept : (ts : List (Addr × Table Cell)) →
      ((r : Addr) (p : Prefix) → originates c r p ≡ true → is_some (value_at r p ts) ≡ true) → (r : Addr) (p : Prefix) →
      originates c r p ≡ true → is_some (value_at r p (kept_tables c ts)) ≡ true
  origins_kept ts there r p own = ap is_some (value_kept r p ts)
      ∙ mapped_there (kept_cell c r p) (value_at r p ts) (there r p own)

  all_filtered : (P : Addr → Type 0) (test : Addr → Bool) (es : List (Addr × Attr)) → AllByRecursion P (keys_of es) →
      AllByRecursion P (keys_of (filter (λ e. test e.0) es))
  all_filtered P test [] h = h
  all_filtered P test (e ∷ es) h =
      elim (test e.0) as (λ b.
      AllByRecursion P (keys_of (cond b (e ∷ filter (λ e. test e.0) es) (filter (λ e. test e.0) es)))) [
        | true ↦ (h.0, all_filtered P test es h.1)
        | false ↦ all_filtered P test es h.1
      ]

  in_order_filtered : (test : Addr → Bool) (es : List (Addr × Attr)) → IsStrictlySortedBy addr_cmp (keys_of es) →
      IsStrictlySortedBy addr_cmp (keys_of (filter (λ e. test e.0) es))
  unfolding IsStrictlySortedBy
  in_order_filtered test [] h = h
  in_order_filtered test (e ∷ es) h =
      elim (test e.0) as (λ b.
      IsStrictlySortedBy addr_cmp (keys_of (cond b (e ∷ filter (λ e. test e.0) es) (filter (λ e. test e.0) es)))) [
        | true ↦ (all_filtered (λ y. addr_cmp e.0 y ≡ Less) test es h.0, in_order_filtered test es h.1)
        | false ↦ in_order_filtered test es h.1
      ]

  cells_of_kept : (old : Configuration) (r : Addr) (cells : List (Prefix × Cell)) →
      AllByRecursion (λ e. IsCell old r e.0 e.1) cells → AllByRecursion (λ e. IsCell c r e.0 e.1) (kept_cells c r cells)
  cells_of_kept old r [] all = tt
  cells_of_kept old r (e ∷ es) all = (
    decided_cell c r e.0 (kept_from c r e.1.received)
        (in_order_filtered (λ u. is_up c u r) e.1.received all.0.by_sender),
    cells_of_kept old r es all.1,
  )

  -- whatever configuration the cells were decided by
  pub tables_kept : (old : Configuration) (ts : List (Addr × Table Cell)) → AllByRecursion (IsTable old) ts →
      AllByRecursion (IsTable c) (kept_tables c ts)
  tables_kept old [] all = tt
  tables_kept old (t ∷ ts) all = (
    subst (AllByRecursion (λ e. IsCell c t.0 e.0 e.1)) (sym (entries_of_kept t.0 t.1))
        (cells_of_kept old t.0 (finite.entries t.1) all.0),
    tables_kept old ts all.1,
  )
