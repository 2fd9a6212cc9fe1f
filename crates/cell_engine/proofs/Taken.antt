-- A message taken into the cell of its receiver: what the network has received, what stays sound, and what no other
-- cell notices.
use Rattle.std.proofs.Common.{◌≡◌, Bool, true, false, cond, ◌&&◌, List, map, Some, None, IsTrue, unwrap_or, refl, sym, ap, ◌∙◌}
use Rattle.std.proofs.lemmas.Bool.{true≢false}
use Rattle.std.specs.Ordering.{is_eq}
use Rattle.std.specs.Cmp.{tied_itself, both_tied, unsigned_ties}
use Rattle.std.specs.List.Sorted.{IsStrictlySortedBy}
use Rattle.std.specs.Map.{keys_of}
use Rattle.std.specs.FinMap.Entries.{is_sorted}
use Rattle.net_prefix.specs.declared.addr.Addr.{Addr}
use Rattle.net_prefix.specs.Address.{same_addr, addr_cmp}
use Rattle.net_prefix.specs.Prefix.{Prefix, prefix_cmp, same_prefix}
use Rattle.net_prefix.specs.Orders.{addr_total, prefix_total}
use Rattle.prefix_table.specs.Tables.{Table}
use Rattle.session_queue.specs.declared.direction.Direction.{Direction}
use Rattle.session_queue.specs.declared.message.Message.{Message}
use Rattle.session_queue.specs.Telling.{prefix_of}
use Rattle.net_conf.specs.RouterSites.{router_site}
use Rattle.reference_machine.specs.Decision.{route_from}
use Rattle.reference_machine.specs.Machine.{received_after}
use Rattle.cell_engine.specs.RouterTables.{value_at, with_value}
use Rattle.cell_engine.specs.Cells.{Cell, new_cell, with_news, decided, route_of}
use Rattle.cell_engine.specs.State.{State, cell_at, all_entries, queue_of, network, IsCell, IsConsistent}
use Rattle.cell_engine.proofs.Received.{route_in_cell, entries_with_news, with_news_in_order}
use Rattle.cell_engine.proofs.Decided.{value_with_cell, decided_received, decided_cell, is_cell, sound_with_cell, by_address_with_cell}

-- OTHER CELLS

prefix_tied : (p q : Prefix) → same_prefix p q ≡ is_eq (prefix_cmp p q)
prefix_tied p q = both_tied _ _ _ _ (unsigned_ties p.addr.0 q.addr.0) (unsigned_ties p.len q.len)

not_both : {A : Type 0} (a b : Bool) (x y : A) → (a && b) ≡ false → cond a (cond b x y) y ≡ y
not_both true true x y h = absurd (true≢false h)
not_both true false x y h = refl
not_both false b x y h = refl

module _ (r : Addr) (p : Prefix) (h : Cell) (ts : List (Addr × Table Cell)) where
  -- the cell that was put in is there
  pub value_here : value_at r p (with_value r p h ts) ≡ Some h
  value_here =
      value_with_cell r p h ts r p
      ∙ (λ i. cond (is_eq (tied_itself addr_total r i))
      (cond (is_eq (tied_itself prefix_total p i)) (Some h) (value_at r p ts)) (value_at r p ts))

  pub cell_here : cell_at r p (with_value r p h ts) ≡ h
  cell_here = ap (λ x. unwrap_or x new_cell) value_here

  module _ (s : Addr) (q : Prefix) (other : (same_addr s r && same_prefix q p) ≡ false) where
    -- every other is as it was
    pub value_elsewhere : value_at s q (with_value r p h ts) ≡ value_at s q ts
    value_elsewhere =
        value_with_cell r p h ts s q
        ∙ (λ i. cond (sym (unsigned_ties s.0 r.0) i) (cond (sym (prefix_tied q p) i) (Some h) (value_at s q ts))
        (value_at s q ts))
        ∙ not_both (same_addr s r) (same_prefix q p) (Some h) (value_at s q ts) other

    pub cell_elsewhere : cell_at s q (with_value r p h ts) ≡ cell_at s q ts
    cell_elsewhere = ap (λ x. unwrap_or x new_cell) value_elsewhere

    -- and so are the routes received for other prefixes, and by other routers
    pub route_elsewhere : IsTrue (is_sorted addr_cmp ts) → (u : Addr) →
        route_from (all_entries (with_value r p h ts)) s q u ≡ route_from (all_entries ts) s q u
    route_elsewhere sorted u =
        route_in_cell (with_value r p h ts) (by_address_with_cell r p h ts sorted) s q u
        ∙ ap (λ (x : Cell). route_of x.received u) cell_elsewhere
        ∙ sym (route_in_cell ts sorted s q u)

-- MESSAGES

-- the cell of the receiver, once it has taken the message
abbrev pub cell_after : State → Direction → Message → Cell
cell_after e d m = decided (router_site e.conf d.to) (prefix_of m)
    (with_news d.from m (cell_at d.to (prefix_of m) e.tables).received)

-- the engine, once the receiver has taken the message, before anything is sent
abbrev pub after_news : State → Direction → Message → State
after_news e d m = record e { tables = with_value d.to (prefix_of m) (cell_after e d m) e.tables }

-- the routes heard are by sender, be there a cell or none
pub cell_in_order : (e : State) → IsConsistent e → (r : Addr) (p : Prefix) →
    IsStrictlySortedBy addr_cmp (keys_of (cell_at r p e.tables).received)
unfolding IsStrictlySortedBy
cell_in_order e sound r p =
    elim (value_at r p e.tables) as (λ x. value_at r p e.tables ≡ x →
    IsStrictlySortedBy addr_cmp (keys_of (unwrap_or x new_cell).received)) [
      | None ↦ λ is. tt
      | Some h ↦ λ is. (is_cell e sound r p h is).by_sender
    ] refl

pub cell_after_is_cell : (e : State) → IsConsistent e → (d : Direction) (m : Message) →
    IsCell e.conf d.to (prefix_of m) (cell_after e d m)
cell_after_is_cell e sound d m =
    let p = prefix_of m in
    let routes = (cell_at d.to p e.tables).received in
    decided_cell e.conf d.to p (with_news d.from m routes)
    (with_news_in_order d.from m routes (cell_in_order e sound d.to p))

-- a message leaves the engine sound
pub sound_after_news : (e : State) → IsConsistent e → (d : Direction) (m : Message) → IsConsistent (after_news e d m)
sound_after_news e sound d m = sound_with_cell e sound d.to (prefix_of m) (cell_after e d m)
    (cell_after_is_cell e sound d m)

-- and the network that the engine keeps has received it
pub network_after_news : (e : State) → IsConsistent e → (d : Direction) (m : Message) →
    network (after_news e d m) ≡ record (network e) { received = received_after d m (network e).received }
unfolding network
network_after_news e sound d m =
    ap (λ es. record { conf = e.conf; received = es; queues = map (queue_of e.queues) e.directions })
    (entries_with_news e.tables sound.by_address d m (cell_after e d m)
    (decided_received (router_site e.conf d.to) (prefix_of m)
    (with_news d.from m (cell_at d.to (prefix_of m) e.tables).received)))
