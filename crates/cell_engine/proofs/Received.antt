-- What has been received, when one cell changes: the list of all Adj-RIBs-In changes by the route of the message.
use Rattle.std.proofs.Common.{◌≡◌, Bool, true, false, cond, List, [], ◌∷◌, map, Option, Some, None, IsTrue, unwrap_or, refl, sym, ap, ◌∙◌}
use Rattle.std.specs.declared.cmp.Ordering.{Ordering}
use Rattle.std.specs.declared.cmp.Ordering.TheVariants.{Less, Equal, Greater}
use Rattle.std.specs.Ordering.{match_ordering, is_eq, ordering_reverse}
use Rattle.std.specs.Cmp.{IsTotalOrder}
use Rattle.std.specs.List.{AllByRecursion}
use Rattle.std.specs.List.Sorted.{IsStrictlySortedBy}
use Rattle.std.specs.Map.{keys_of, remove_entry}
use Rattle.std.specs.BTreeMap.{insert_entry, is_at}
use Rattle.std.specs.FinMap.Entries.{is_sorted}
use Rattle.net_prefix.specs.declared.addr.Addr.{Addr}
use Rattle.net_prefix.specs.Address.{addr_cmp}
use Rattle.net_prefix.specs.Prefix.{Prefix}
use Rattle.net_prefix.specs.Orders.{addr_total}
use Rattle.path_attr.specs.declared.attr.Attr.{Attr}
use Rattle.prefix_table.specs.Tables.{Table}
use Rattle.session_queue.specs.declared.direction.Direction.{Direction}
use Rattle.session_queue.specs.declared.message.Message.{Message}
use Rattle.session_queue.specs.declared.message.Message.TheVariants.{Update, Withdraw}
use Rattle.session_queue.specs.Telling.{prefix_of}
use Rattle.reference_machine.specs.Network.{route_cmp, with_route, without_route}
use Rattle.reference_machine.specs.Decision.{route_from}
use Rattle.reference_machine.specs.Machine.{received_after}
use Rattle.cell_engine.specs.RouterTables.{value_at, with_value}
use Rattle.cell_engine.specs.Cells.{Cell, new_cell, route_of, with_news}
use Rattle.cell_engine.specs.State.{cell_at, entry_of, all_entries}
use Rattle.cell_engine.proofs.Chunks.{no_edit, insert_edit, remove_edit, lookup_look}
use Rattle.cell_engine.proofs.Flat.{route_at, from_key, by_sender, entries_changed, entries_seen}

-- ONE CELL

module _ (r : Addr) (p : Prefix) (u : Addr) where
  -- a route put into a cell is put into the cell's entries
  cell_with_route : (attr : Attr) (es : List (Addr × Attr)) → map (entry_of r p) (insert_entry addr_cmp es u attr)
      ≡ with_route (route_at r p u) attr (map (entry_of r p) es)
  cell_with_route attr [] = refl
  cell_with_route attr (e ∷ es) =
      elim (addr_cmp u e.0) as (λ o.
      map (entry_of r p) (match_ordering o ((u, attr) ∷ e ∷ es) ((e.0, attr) ∷ es)
      (e ∷ insert_entry addr_cmp es u attr))
      ≡ match_ordering o ((route_at r p u, attr) ∷ map (entry_of r p) (e ∷ es))
      ((route_at r p e.0, attr) ∷ map (entry_of r p) es)
      (entry_of r p e ∷ with_route (route_at r p u) attr (map (entry_of r p) es))) [
        | Less ↦ refl
        | Equal ↦ refl
        | Greater ↦ ap (λ l. entry_of r p e ∷ l) (cell_with_route attr es)
      ]
      ∙ ap (λ o. match_ordering o ((route_at r p u, attr) ∷ map (entry_of r p) (e ∷ es))
      ((route_at r p e.0, attr) ∷ map (entry_of r p) es)
      (entry_of r p e ∷ with_route (route_at r p u) attr (map (entry_of r p) es))) (sym (by_sender r p u e.0))

  -- and taken out likewise
  cell_without_route : (es : List (Addr × Attr)) → map (entry_of r p) (remove_entry (is_at (addr_cmp u)) es)
      ≡ without_route (route_at r p u) (map (entry_of r p) es)
  cell_without_route [] = refl
  cell_without_route (e ∷ es) =
      elim (is_eq (addr_cmp u e.0)) as (λ b. map (entry_of r p) (cond b es (e ∷ remove_entry (is_at (addr_cmp u)) es))
      ≡ cond b (map (entry_of r p) es) (entry_of r p e ∷ without_route (route_at r p u) (map (entry_of r p) es))) [
        | true ↦ refl
        | false ↦ ap (λ l. entry_of r p e ∷ l) (cell_without_route es)
      ]
      ∙ ap (λ o. cond (is_eq o) (map (entry_of r p) es)
      (entry_of r p e ∷ without_route (route_at r p u) (map (entry_of r p) es))) (sym (by_sender r p u e.0))

  -- the route of a sender is that of its key
  cell_route : (es : List (Addr × Attr)) → route_from (map (entry_of r p) es) r p u ≡ route_of es u
  cell_route [] = refl
  cell_route (e ∷ es) = λ i. cond (is_eq (by_sender r p u e.0 i)) (Some e.1) (cell_route es i)

-- ALL TABLES

module _ (ts : List (Addr × Table Cell)) (sorted : IsTrue (is_sorted addr_cmp ts)) where
  -- a cell with a route more, or another from the sender
  pub entries_with_route : (r : Addr) (p : Prefix) (u : Addr) (attr : Attr) (h : Cell) →
      h.received ≡ insert_entry addr_cmp (cell_at r p ts).received u attr →
      all_entries (with_value r p h ts) ≡ with_route (route_at r p u) attr (all_entries ts)
  entries_with_route r p u attr h is =
      entries_changed r p u (insert_edit route_cmp (route_at r p u) attr) h ts sorted (ap (map (entry_of r p)) is
      ∙ cell_with_route r p u attr (cell_at r p ts).received)

  -- a cell without the sender's route
  pub entries_without_route : (r : Addr) (p : Prefix) (u : Addr) (h : Cell) →
      h.received ≡ remove_entry (is_at (addr_cmp u)) (cell_at r p ts).received →
      all_entries (with_value r p h ts) ≡ without_route (route_at r p u) (all_entries ts)
  entries_without_route r p u h is =
      entries_changed r p u (remove_edit route_cmp (route_at r p u)) h ts sorted (ap (map (entry_of r p)) is
      ∙ cell_without_route r p u (cell_at r p ts).received)

  -- a message taken into the receiver's cell is taken into the network
  pub entries_with_news : (d : Direction) (m : Message) (h : Cell) →
      h.received ≡ with_news d.from m (cell_at d.to (prefix_of m) ts).received →
      all_entries (with_value d.to (prefix_of m) h ts) ≡ received_after d m (all_entries ts)
  entries_with_news d (Update p attr) h is = entries_with_route d.to p d.from attr h is
  entries_with_news d (Withdraw p) h is = entries_without_route d.to p d.from h is

  -- a cell with the same routes changes nothing
  pub entries_same : (r : Addr) (p : Prefix) (h : Cell) → h.received ≡ (cell_at r p ts).received →
      all_entries (with_value r p h ts) ≡ all_entries ts
  entries_same r p h is = entries_changed r p r (no_edit (from_key (route_at r p r))) h ts sorted
      (ap (map (entry_of r p)) is)

  -- nor does an empty cell where there is none
  pub entries_with_empty_cell : (r : Addr) (p : Prefix) → value_at r p ts ≡ None →
      all_entries (with_value r p new_cell ts) ≡ all_entries ts
  entries_with_empty_cell r p none =
      entries_same r p new_cell (ap (λ (x : Option Cell). (unwrap_or x new_cell).received) (sym none))

  -- the route that the network has is that of the cell
  pub route_in_cell : (r : Addr) (p : Prefix) (u : Addr) →
      route_from (all_entries ts) r p u ≡ route_of (cell_at r p ts).received u
  route_in_cell r p u = entries_seen r p u (lookup_look route_cmp (route_at r p u)) ts sorted
      ∙ cell_route r p u (cell_at r p ts).received

-- THE ORDER OF SENDERS

module _ {K X : Type 0} (P : K → Type 0) where
  all_inserted : (cmp : K → K → Ordering) (k : K) (v : X) (es : List (K × X)) → P k → AllByRecursion P (keys_of es) →
      AllByRecursion P (keys_of (insert_entry cmp es k v))
  all_inserted cmp k v [] pk h = (pk, tt)
  all_inserted cmp k v (e ∷ es) pk h =
      elim (cmp k e.0) as (λ o.
      AllByRecursion P (keys_of
      (match_ordering o ((k, v) ∷ e ∷ es) ((e.0, v) ∷ es) (e ∷ insert_entry cmp es k v)))) [
        | Less ↦ (pk, h)
        | Equal ↦ h
        | Greater ↦ (h.0, all_inserted cmp k v es pk h.1)
      ]

  all_removed : (test : K → Bool) (es : List (K × X)) → AllByRecursion P (keys_of es) →
      AllByRecursion P (keys_of (remove_entry test es))
  all_removed test [] h = h
  all_removed test (e ∷ es) h =
      elim (test e.0) as (λ b. AllByRecursion P (keys_of (cond b es (e ∷ remove_entry test es)))) [
        | true ↦ h.1
        | false ↦
            (h.0, all_removed test es h.1)
      ]

all_past : {K : Type 0} {cmp : K → K → Ordering} → IsTotalOrder cmp → (k j : K) (ks : List K) → cmp k j ≡ Less →
    AllByRecursion (λ y. cmp j y ≡ Less) ks → AllByRecursion (λ y. cmp k y ≡ Less) ks
all_past o k j [] is h = tt
all_past o k j (x ∷ ks) is h = (o.trans k j x is h.0, all_past o k j ks is h.1)

module _ {K X : Type 0} {cmp : K → K → Ordering} (o : IsTotalOrder cmp) where
  abbrev InOrder : List (K × X) → Type 0
  InOrder es = IsStrictlySortedBy cmp (keys_of es)

  -- an entry put in keeps the order
  pub in_order_inserted : (k : K) (v : X) (es : List (K × X)) → InOrder es → InOrder (insert_entry cmp es k v)
  unfolding IsStrictlySortedBy
  in_order_inserted k v [] h = (tt, tt)
  in_order_inserted k v (e ∷ es) h =
      elim (cmp k e.0) as (λ r. cmp k e.0 ≡ r →
      InOrder (match_ordering r ((k, v) ∷ e ∷ es) ((e.0, v) ∷ es) (e ∷ insert_entry cmp es k v))) [
        | Less ↦ λ is. ((is, all_past o k e.0 (keys_of es) is h.0), h)
        | Equal ↦ λ is. h
        | Greater ↦ λ is. (
          all_inserted (λ y. cmp e.0 y ≡ Less) cmp k v es (o.antisymm e.0 k
              ∙ ap ordering_reverse is) h.0,
          in_order_inserted k v es h.1,
        )
      ] refl

  -- an entry taken out keeps the order
  pub in_order_removed : (test : K → Bool) (es : List (K × X)) → InOrder es → InOrder (remove_entry test es)
  unfolding IsStrictlySortedBy
  in_order_removed test [] h = h
  in_order_removed test (e ∷ es) h = elim (test e.0) as (λ b. InOrder (cond b es (e ∷ remove_entry test es))) [
    | true ↦
        h.1
    | false ↦ (all_removed (λ y. cmp e.0 y ≡ Less) test es h.0, in_order_removed test es h.1)
  ]

-- a message keeps the routes of a cell by sender
pub with_news_in_order : (u : Addr) (m : Message) (routes : List (Addr × Attr)) →
    IsStrictlySortedBy addr_cmp (keys_of routes) → IsStrictlySortedBy addr_cmp (keys_of (with_news u m routes))
with_news_in_order u (Update p attr) routes h = in_order_inserted addr_total u attr routes h
with_news_in_order u (Withdraw p) routes h = in_order_removed addr_total (is_at (addr_cmp u)) routes h
