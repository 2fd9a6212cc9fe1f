-- The Adj-RIBs-In as one list: what is changed and what is seen there at one router and prefix.
use Rattle.std.proofs.Common.{◌≡◌, List, [], ◌∷◌, map, Option, Some, None, IsTrue, unwrap_or, refl, sym, ap, ◌∙◌}
use Rattle.std.proofs.lemmas.List.{nil_from_length}
use Rattle.std.specs.declared.cmp.Ordering.{Ordering}
use Rattle.std.specs.declared.cmp.Ordering.TheVariants.{Less, Greater}
use Rattle.std.specs.Ordering.{ordering_then}
use Rattle.std.specs.Cmp.{tied_itself}
use Rattle.std.specs.FinMap as finite
use Rattle.std.specs.FinMap.Entries as entries
use Rattle.net_prefix.specs.declared.addr.Addr.{Addr}
use Rattle.net_prefix.specs.Address.{addr_cmp}
use Rattle.net_prefix.specs.Prefix.{Prefix, prefix_cmp}
use Rattle.net_prefix.specs.Orders.{addr_total, addr_exact, prefix_total, prefix_exact}
use Rattle.path_attr.specs.declared.attr.Attr.{Attr}
use Rattle.prefix_table.specs.Tables.{Table}
use Rattle.reference_machine.specs.declared.rows.RouteKey.{RouteKey}
use Rattle.reference_machine.specs.Network.{route_cmp}
use Rattle.cell_engine.specs.RouterTables.{table_at, with_value}
use Rattle.cell_engine.specs.Cells.{Cell, new_cell}
use Rattle.cell_engine.specs.State.{cell_at, entry_of, cell_entries, list_entries, table_entries, all_entries}
use Rattle.cell_engine.proofs.Chunks.{T_of, Each, each_append, IsEdit, IsLook, IsChunked, chunk, flat_put, flat_at}

-- the key of the route that the router has from the sender
abbrev pub route_at : Addr → Prefix → Addr → RouteKey
route_at r p u = record { to = r; prefix = p; from = u }

-- an entry, seen from the key
abbrev pub from_key : RouteKey → RouteKey × Attr → Ordering
from_key k e = route_cmp k e.0

-- an empty table has no entries
pub no_cells : finite.entries (finite.empty {X = Cell} {R = prefix_cmp}) ≡ []
no_cells = nil_from_length _ (sym (finite.len-entries (finite.empty {X = Cell} {R = prefix_cmp}))
    ∙ finite.len-empty prefix_cmp Cell)

module _ (r : Addr) (p : Prefix) (u : Addr) where
  side_of_cell : (s : Addr) (q : Prefix) (o : Ordering) →
      ((v : Addr) → route_cmp (route_at r p u) (route_at s q v) ≡ o) → (es : List (Addr × Attr)) →
      Each (from_key (route_at r p u)) o (map (entry_of s q) es)
  side_of_cell s q o is [] = tt
  side_of_cell s q o is (e ∷ es) = (is e.0, side_of_cell s q o is es)

  side_of_cells : (s : Addr) (o : Ordering) →
      ((q : Prefix) (v : Addr) → route_cmp (route_at r p u) (route_at s q v) ≡ o) → (cells : List (Prefix × Cell)) →
      Each (from_key (route_at r p u)) o (list_entries s cells)
  side_of_cells s o is [] = tt
  side_of_cells s o is (e ∷ es) = each_append (from_key (route_at r p u)) o (cell_entries s e.0 e.1) (list_entries s es)
      (side_of_cell s e.0 o (is e.0) e.1.received) (side_of_cells s o is es)

  -- keys of one router are in the order of their prefixes, then of their senders
  by_prefix : (q : Prefix) (v : Addr) → route_cmp (route_at r p u) (route_at r q v)
      ≡ ordering_then (prefix_cmp p q) (addr_cmp u v)
  by_prefix q v = ap (λ o. ordering_then o (ordering_then (prefix_cmp p q) (addr_cmp u v))) (tied_itself addr_total r)

  -- and of one prefix too, in that of their senders
  pub by_sender : (v : Addr) → route_cmp (route_at r p u) (route_at r p v) ≡ addr_cmp u v
  by_sender v = by_prefix p v ∙ ap (λ o. ordering_then o (addr_cmp u v)) (tied_itself prefix_total p)

  -- the cells of the router
  cells_chunked : IsChunked (from_key (route_at r p u)) prefix_cmp (cell_entries r) p
  cells_chunked = record {
    total = prefix_total;
    exact = prefix_exact;
    less = λ q h is. side_of_cell r q Less (λ v. by_prefix q v
        ∙ ap (λ o. ordering_then o (addr_cmp u v)) is) h.received;
    greater = λ q h is. side_of_cell r q Greater (λ v. by_prefix q v
        ∙ ap (λ o. ordering_then o (addr_cmp u v)) is) h.received;
  }

  -- the tables of all routers
  tables_chunked : IsChunked (from_key (route_at r p u)) addr_cmp table_entries r
  tables_chunked = record {
    total = addr_total;
    exact = addr_exact;
    less = λ s t is. side_of_cells s Less
        (λ q v. ap (λ o. ordering_then o (ordering_then (prefix_cmp p q) (addr_cmp u v))) is) (finite.entries t);
    greater = λ s t is. side_of_cells s Greater
        (λ q v. ap (λ o. ordering_then o (ordering_then (prefix_cmp p q) (addr_cmp u v))) is) (finite.entries t);
  }

  -- the entries of the cell, if there is one
  cell_chunk : (x : Option Cell) → chunk (cell_entries r) p x ≡ cell_entries r p (unwrap_or x new_cell)
  cell_chunk None = refl
  cell_chunk (Some h) = refl

  module _ {g : List (RouteKey × Attr) → List (RouteKey × Attr)} (edit : IsEdit (from_key (route_at r p u)) g)
      (h : Cell) where
    table_changed : (t : Table Cell) → cell_entries r p h ≡ g (cell_entries r p (unwrap_or (finite.get t p) new_cell)) →
        table_entries r (finite.insert t p h) ≡ g (table_entries r t)
    table_changed t is =
        ap (list_entries r) (finite.entries-insert prefix_total t p h)
        ∙ flat_put cells_chunked edit h (finite.entries t) (finite.entries_sorted t)
        (is ∙ ap g (sym (cell_chunk (finite.get t p)))
        ∙ ap (λ x. g (chunk (cell_entries r) p x)) (finite.get-entries t p))

    table_at_changed : (x : Option (Table Cell)) →
        cell_entries r p h ≡ g (cell_entries r p (unwrap_or (finite.get (unwrap_or x finite.empty) p) new_cell)) →
        table_entries r (finite.insert (unwrap_or x finite.empty) p h) ≡ g (chunk table_entries r x)
    table_at_changed None is = table_changed finite.empty is ∙ ap (λ es. g (list_entries r es)) no_cells
    table_at_changed (Some t) is = table_changed t is

    -- a cell that takes the place of another changes the whole as it changes the entries of the cell
    pub entries_changed : (ts : List (Addr × Table Cell)) → IsTrue (entries.is_sorted addr_cmp ts) →
        cell_entries r p h ≡ g (cell_entries r p (cell_at r p ts)) →
        all_entries (with_value r p h ts) ≡ g (all_entries ts)
    entries_changed ts sorted is =
        flat_put tables_chunked edit (finite.insert (table_at r ts) p h) ts (T_of _ sorted)
        (table_at_changed (entries.find addr_cmp r ts) is)

  module _ {Y : Type 0} {g : List (RouteKey × Attr) → Y} (look : IsLook (from_key (route_at r p u)) g) where
    table_seen : (t : Table Cell) → g (table_entries r t) ≡ g (cell_entries r p (unwrap_or (finite.get t p) new_cell))
    table_seen t =
        flat_at cells_chunked look (finite.entries t) (finite.entries_sorted t)
        ∙ ap (λ x. g (chunk (cell_entries r) p x)) (sym (finite.get-entries t p))
        ∙ ap g (cell_chunk (finite.get t p))

    table_at_seen : (x : Option (Table Cell)) →
        g (chunk table_entries r x)
        ≡ g (cell_entries r p (unwrap_or (finite.get (unwrap_or x finite.empty) p) new_cell))
    table_at_seen None = ap (λ x. g (cell_entries r p (unwrap_or x new_cell))) (sym (finite.get-empty prefix_cmp p))
    table_at_seen (Some t) = table_seen t

    -- a look at the whole sees the entries of the cell
    pub entries_seen : (ts : List (Addr × Table Cell)) → IsTrue (entries.is_sorted addr_cmp ts) →
        g (all_entries ts) ≡ g (cell_entries r p (cell_at r p ts))
    entries_seen ts sorted = flat_at tables_chunked look ts (T_of _ sorted) ∙ table_at_seen (entries.find addr_cmp r ts)
