-- An engine that grows by an empty cell or by spare places keeps the same.
use Rattle.std.proofs.Common.{◌≡◌, true, false, cond, List, [], ◌∷◌, map, slice_get, Option, Some, None, is_some, unwrap_or, Result, Ok, Err, OnOk, OnErr, option_copied, refl, sym, ap, subst, ◌∙◌}
use Rattle.std.proofs.lemmas.Bool.{true≢false}
use Rattle.std.proofs.lemmas.Option.{none-some, same_Some}
use Rattle.std.specs.Borrow.{Bor}
use Rattle.std.specs.declared.cmp.Ordering.{Ordering}
use Rattle.std.specs.declared.cmp.Ordering.TheVariants.{Less, Equal, Greater}
use Rattle.std.specs.Ordering.{is_eq}
use Rattle.std.specs.List.Sorted.{IsStrictlySortedBy}
use Rattle.std.specs.FinMap as finite
use Rattle.net_prefix.specs.declared.addr.Addr.{Addr}
use Rattle.net_prefix.specs.Address.{addr_cmp}
use Rattle.net_prefix.specs.Prefix.{Prefix, MakePrefix, prefix_cmp}
use Rattle.net_prefix.specs.Orders.{addr_exact, prefix_exact}
use Rattle.prefix_table.specs.Tables.{Table}
use Rattle.session_queue.specs.declared.direction.Direction.{Direction}
use Rattle.session_queue.specs.declared.message.Message.{Message}
use Rattle.session_queue.specs.Telling.{prefix_of}
use Rattle.session_queue.specs.Waiting.{Queues, queue_at, IsQuiet}
use Rattle.net_conf.specs.Configuration.{Configuration, unconfigured}
use Rattle.net_conf.specs.RouterSites.{router_site}
use Rattle.reference_machine.specs.Machine.{nothing}
use Rattle.cell_engine.specs.RouterTables.{value_at, with_value}
use Rattle.cell_engine.specs.Cells.{Cell, Outcome, new_cell}
use Rattle.cell_engine.specs.State.{State, IsConsistent, cell_at, network, queue_of}
use Rattle.cell_engine.specs.Keeping.{kept_from}
use Rattle.cell_engine.specs.Changes.{AreOverSessionsUp}
use Rattle.cell_engine.specs.Reporting.{AreOfPrefixes}
use Rattle.cell_engine.proofs.Matches.{prefixes_with_cell}
use Rattle.cell_engine.proofs.Decided.{value_with_cell, sound_with_empty_cell}
use Rattle.cell_engine.proofs.Queues.{network_same}
use Rattle.cell_engine.proofs.Received.{entries_with_empty_cell}
use Rattle.cell_engine.proofs.Taken.{value_here}
use Rattle.cell_engine.specs.Deliveries.{outcome_by, outcome_at, IsOfHead, KeepsSame}

-- THE NETWORK STAYS

pub network_kept : (e e' : State) → KeepsSame e e' → network e' ≡ network e
unfolding network
network_kept e e' same =
    (λ i. record {
      conf = same.conf i;
      received = same.received i;
      queues = map (queue_of e'.queues) (same.directions i);
    })
    ∙ network_same e e'.queues same.queue

pub same_itself : (e : State) → KeepsSame e e
same_itself e = record { conf = refl; directions = refl; received = refl; cell = λ r p. refl; queue = λ f t. refl }

-- and all routes come over sessions that are up still
pub ups_kept : (e e' : State) → KeepsSame e e' → AreOverSessionsUp e.conf e.tables → AreOverSessionsUp e'.conf e'.tables
ups_kept e e' same up r p =
    (λ i. kept_from (same.conf i) r (same.cell r p i).received) ∙ up r p
    ∙ sym (ap (λ (h : Cell). h.received) (same.cell r p))

-- what is made of the message at the head is the head's outcome
pub head_of : (e : State) (d : Direction) (m : Message) (o : Outcome) → slice_get (queue_at e.queues d.from d.to) 0
    ≡ Some m → o ≡ outcome_at e d m → IsOfHead e d (prefix_of m) o
head_of e d m o first is = by (queue_at e.queues d.from d.to) refl first
  where
    by : (ms : List Message) → queue_at e.queues d.from d.to ≡ ms → slice_get ms 0 ≡ Some m →
        IsOfHead e d (prefix_of m) o
    by [] waits first = absurd (none-some m first)
    by (w ∷ ws) waits first = record {
      message = m;
      rest = ws;
      waits = waits ∙ ap (λ x. x ∷ ws) (same_Some w m first);
      prefix = refl;
      outcome = is;
    }

-- and stays it
pub head_kept : (e e' : State) → KeepsSame e e' → (d : Direction) (p : Prefix) (o : Outcome) →
    IsOfHead e d p o → IsOfHead e' d p o
head_kept e e' same d p o head = record {
  message = head.message;
  rest = head.rest;
  waits = same.queue d.from d.to ∙ head.waits;
  prefix = head.prefix;
  outcome = head.outcome ∙ sym
      (λ i. outcome_by (router_site (same.conf i) d.to) (same.cell d.to (prefix_of head.message) i)
      d.from head.message);
}

-- what follows at an error
pub at_error : {A F : Type 0} {P Q : Type 0} (r : Result A F) → (P → Q) → OnErr r P → OnErr r Q
at_error (Ok x) f p = tt
at_error (Err x) f p = f p

-- PLACES

pub same_with_places : (e : State) (q : Queues) → ((f t : Addr) → queue_at q f t ≡ queue_at e.queues f t) →
    KeepsSame e (record e { queues = q })
same_with_places e q same = record { conf = refl; directions = refl; received = refl; cell = λ r p. refl; queue = same }

-- AN EMPTY CELL

module _ (e : State) (r : Addr) (p : Prefix) (sound : IsConsistent e) (none : value_at r p e.tables ≡ None) where
  cell_by : (s : Addr) (q : Prefix) (a b : Ordering) → addr_cmp s r ≡ a → prefix_cmp q p ≡ b →
      unwrap_or (cond (is_eq a) (cond (is_eq b) (Some new_cell) (value_at s q e.tables)) (value_at s q e.tables))
      new_cell ≡ cell_at s q e.tables
  cell_by s q Less b is also = refl
  cell_by s q Equal Less is also = refl
  cell_by s q Equal Equal is also =
      let here : value_at s q e.tables ≡ None = (λ i. value_at (addr_exact s r is i) (prefix_exact q p also i) e.tables)
      ∙ none in
      sym (ap (λ x. unwrap_or x new_cell) here)
  cell_by s q Equal Greater is also = refl
  cell_by s q Greater b is also = refl

  pub same_with_empty_cell : KeepsSame e (record e { tables = with_value r p new_cell e.tables })
  same_with_empty_cell = record {
    conf = refl;
    directions = refl;
    received = entries_with_empty_cell e.tables sound.by_address r p none;
    cell = λ s q. ap (λ x. unwrap_or x new_cell) (value_with_cell r p new_cell e.tables s q)
        ∙ cell_by s q (addr_cmp s r) (prefix_cmp q p) refl refl;
    queue = λ f t. refl;
  }

none_of : {X : Type 0} (x : Option X) → is_some x ≡ false → x ≡ None
none_of None h = refl
none_of (Some y) h = absurd (true≢false h)

-- the tables, once an empty cell was put in, or was not for want of memory
module _ {A F : Type 0} (e : State) (r : Addr) (p : Prefix) (ts : List (Addr × Table Cell)) (o : Result A F)
    (ok : OnOk o (ts ≡ with_value r p new_cell e.tables)) where
  -- all that have a cell are prefixes
  pub grown_prefixes : OnErr o (ts ≡ e.tables) → MakePrefix p.addr p.len → AreOfPrefixes e.tables → AreOfPrefixes ts
  grown_prefixes err block are = by o ok err
    where
      by : (o : Result A F) → OnOk o (ts ≡ with_value r p new_cell e.tables) →
          OnErr o (ts ≡ e.tables) → AreOfPrefixes ts
      by (Ok x) ok err = subst AreOfPrefixes (sym ok) (prefixes_with_cell r p new_cell e.tables block are)
      by (Err x) ok err = subst AreOfPrefixes (sym err) are

  module _ (err : OnErr o (ts ≡ e.tables)) (sound : IsConsistent e)
      (absent : is_some (value_at r p e.tables) ≡ false) where
    pub grown_sound : IsConsistent (record e { tables = ts })
    grown_sound = by o ok err
      where
        by : (o : Result A F) → OnOk o (ts ≡ with_value r p new_cell e.tables) → OnErr o (ts ≡ e.tables) →
            IsConsistent (record e { tables = ts })
        by (Ok x) ok err = subst (λ ts. IsConsistent (record e { tables = ts })) (sym ok)
            (sound_with_empty_cell e sound r p (none_of _ absent))
        by (Err x) ok err = subst (λ ts. IsConsistent (record e { tables = ts })) (sym err) sound

    pub grown_same : KeepsSame e (record e { tables = ts })
    grown_same = by o ok err
      where
        by : (o : Result A F) → OnOk o (ts ≡ with_value r p new_cell e.tables) → OnErr o (ts ≡ e.tables) →
            KeepsSame e (record e { tables = ts })
        by (Ok x) ok err = subst (λ ts. KeepsSame e (record e { tables = ts })) (sym ok)
            (same_with_empty_cell e r p sound (none_of _ absent))
        by (Err x) ok err = subst (λ ts. KeepsSame e (record e { tables = ts })) (sym err) (same_itself e)

  pub grown_there : OnOk o (is_some (value_at r p ts) ≡ true)
  grown_there = by o ok
    where
      by : (o : Result A F) → OnOk o (ts ≡ with_value r p new_cell e.tables) → OnOk o (is_some (value_at r p ts) ≡ true)
      by (Ok x) ok = ap (λ ts. is_some (value_at r p ts)) ok ∙ ap is_some (value_here r p new_cell e.tables)
      by (Err x) ok = tt

-- what a reference shows, or another where there is none
pub shown_or : {X : Type 0} (o : Option (Bor X)) (other : Bor X) →
    (unwrap_or o other).now ≡ unwrap_or (option_copied o) other.now
shown_or None other = refl
shown_or (Some x) other = refl

-- NOTHING

-- an engine of which nothing is configured, received or on its way, but perhaps places are
abbrev pub blank : Queues → State
blank q = record { conf = unconfigured; tables = []; directions = []; queues = q }

pub blank_sound : (q : Queues) → IsQuiet q → IsConsistent (blank q)
unfolding IsStrictlySortedBy
blank_sound q quiet = record {
  by_address = refl;
  cells = tt;
  origins = λ r p own. absurd (true≢false (sym own));
  in_order = tt;
  sessions = λ d. refl;
  silent = λ f t none. quiet f t;
}

pub no_routes : (c : Configuration) → AreOverSessionsUp c []
no_routes c r p =
    let none : value_at r p [] ≡ None = finite.get-empty prefix_cmp p in
    ap (λ x. kept_from c r (unwrap_or x new_cell).received) none ∙ sym (ap (λ x. (unwrap_or x new_cell).received) none)

pub blank_network : (q : Queues) → network (blank q) ≡ nothing
unfolding network
blank_network q = refl
