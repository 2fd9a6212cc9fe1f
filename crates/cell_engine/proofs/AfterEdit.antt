-- An engine after an edit: it is sound, and its network is the machine's own.
use Rattle.std.proofs.Common.{◌≡◌, ◌⊎◌, inl, inr, Bool, true, false, cond, List, [], ◌++◌, map, filter, Option, Some, None, is_some, if◌then◌else◌, refl, sym, ap, ◌∙◌}
use Rattle.std.proofs.lemmas.Bool.{true≢false}
use Rattle.std.specs.Cmp.{tied_itself}
use Rattle.std.specs.Ordering.{is_eq}
use Rattle.net_prefix.specs.declared.addr.Addr.{Addr}
use Rattle.net_prefix.specs.Prefix.{Prefix}
use Rattle.net_prefix.specs.Orders.{addr_total, prefix_total}
use Rattle.prefix_table.specs.Tables.{Table}
use Rattle.session_queue.specs.declared.message.Message.{Message}
use Rattle.session_queue.specs.Waiting.{Queues, queue_at}
use Rattle.net_conf.specs.Configuration.{Configuration, has_session, originates, origination_cmp}
use Rattle.net_conf.specs.Edits.{edited, refusal_of}
use Rattle.net_conf.specs.declared.tables.Origination.{Origination}
use Rattle.net_conf.specs.declared.edit.Edit.{Edit}
use Rattle.net_conf.specs.declared.edit.Edit.TheVariants.{Origin}
use Rattle.net_conf.proofs.KeptTrees.{equal_when}
use Rattle.reference_machine.specs.Network.{with_more}
use Rattle.reference_machine.specs.Machine.{is_kept, emptied, with_queues, reconfigured, after_edit}
use Rattle.cell_engine.specs.RouterTables.{value_at, with_value}
use Rattle.cell_engine.specs.Cells.{Cell, new_cell}
use Rattle.cell_engine.specs.State.{State, IsConsistent, all_entries, queue_of, network}
use Rattle.cell_engine.specs.Editing.{with_directions, left_at, with_origin, edited_tables, edited_engine}
use Rattle.cell_engine.proofs.Decided.{value_with_cell, network_with_empty_cell, sound_with_empty_cell}
use Rattle.cell_engine.proofs.Kept.{entries_kept, by_address_kept, tables_kept, origins_kept}
use Rattle.cell_engine.proofs.AcceptedEdits.{passes, adds, origin_exact, origin_old_or_new}
use Rattle.cell_engine.proofs.Directions.{joined_sessions, joined_in_order, queues_joined, queues_left, queues_left_and_more}

-- A CELL FOR WHAT IS ORIGINATED

none_there : {A : Type 0} (x : Option A) → is_some x ≡ false → x ≡ None
none_there None h = refl
none_there (Some a) h = absurd (true≢false h)

module _ (e : State) (sound : IsConsistent e) where
  -- with a cell for a prefix that a router comes to originate
  abbrev pub originating : Edit → State
  originating edit = record e { tables = with_origin edit e.tables }

  origin_by : (r : Addr) (p : Prefix) (there : Bool) → is_some (value_at r p e.tables) ≡ there →
      IsConsistent (record e { tables = if there then e.tables else with_value r p new_cell e.tables })
  origin_by r p true is = sound
  origin_by r p false is = sound_with_empty_cell e sound r p (none_there (value_at r p e.tables) is)

  pub sound_originating : (edit : Edit) → IsConsistent (originating edit)
  sound_originating (Origin r p) = origin_by r p (is_some (value_at r p e.tables)) refl
  sound_originating edit = sound

  same_by : (r : Addr) (p : Prefix) (there : Bool) → is_some (value_at r p e.tables) ≡ there →
      network (record e { tables = if there then e.tables else with_value r p new_cell e.tables }) ≡ network e
  same_by r p true is = refl
  same_by r p false is = network_with_empty_cell e sound r p (none_there (value_at r p e.tables) is)

  -- it is seen by nothing
  pub network_originating : (edit : Edit) → network (originating edit) ≡ network e
  network_originating (Origin r p) = same_by r p (is_some (value_at r p e.tables)) refl
  network_originating edit = refl

-- the cell is there
there_by : (r : Addr) (p : Prefix) (ts : List (Addr × Table Cell)) (there : Bool) → is_some (value_at r p ts) ≡ there →
    is_some (value_at r p (if there then ts else with_value r p new_cell ts)) ≡ true
there_by r p ts true is = is
there_by r p ts false is =
    ap is_some (value_with_cell r p new_cell ts r p)
    ∙ (λ i. is_some (cond (is_eq (tied_itself addr_total r i))
    (cond (is_eq (tied_itself prefix_total p i)) (Some new_cell) (value_at r p ts)) (value_at r p ts)))

added_there : (edit : Edit) (r : Addr) (p : Prefix) (ts : List (Addr × Table Cell)) → adds edit r p ≡ true →
    is_some (value_at r p (with_origin edit ts)) ≡ true
added_there (Origin a q) r p ts h =
    let at : ◌≡◌ {A = Origination} (record { router = r; prefix = p }) (record { router = a; prefix = q }) =
    origin_exact _ _ (equal_when
    (origination_cmp (record { router = r; prefix = p }) (record { router = a; prefix = q })) h) in
    ap (λ (o : Origination). is_some (value_at o.router o.prefix (with_origin (Origin a q) ts))) at
    ∙ there_by a q ts (is_some (value_at a q ts)) refl
added_there edit r p ts h = absurd (true≢false (sym h))

-- THE ENGINE

module _ (e : State) (sound : IsConsistent e) (edit : Edit) (none : refusal_of e.conf edit ≡ None) where
  abbrev new : Configuration
  new = edited e.conf edit

  origins_there : (r : Addr) (p : Prefix) → originates new r p ≡ true →
      is_some (value_at r p (with_origin edit e.tables)) ≡ true
  origins_there r p own = by (origin_old_or_new e.conf edit r p own) where
    by : (adds edit r p ≡ true) ⊎ (originates e.conf r p ≡ true) →
        is_some (value_at r p (with_origin edit e.tables)) ≡ true
    by (inl added) = added_there edit r p e.tables added
    by (inr was) = (sound_originating e sound edit).origins r p was

  -- the engine after an edit is sound, where no message is on its way but over sessions
  pub sound_edited : (q : Queues) → ((f t : Addr) → has_session new f t ≡ false → queue_at q f t ≡ []) →
      IsConsistent (edited_engine e edit q)
  sound_edited q silent =
      let first = sound_originating e sound edit in
      record {
        by_address = by_address_kept new (with_origin edit e.tables) first.by_address;
        cells = tables_kept new e.conf (with_origin edit e.tables) first.cells;
        origins = origins_kept new (with_origin edit e.tables) origins_there;
        in_order = joined_in_order edit e.directions sound.in_order;
        sessions = joined_sessions e.conf edit (passes e.conf edit none) e.directions sound.sessions;
        silent = silent;
      }

  -- its routes are those that the machine keeps
  pub received_edited : all_entries (edited_tables new edit e.tables) ≡ filter (is_kept new) (network e).received
  unfolding network
  received_edited = entries_kept new (with_origin edit e.tables)
      ∙ ap (λ s. filter (is_kept new) s.received) (network_originating e sound edit)

  abbrev joined : with_queues edit (map (queue_of e.queues) e.directions)
      ≡ map (queue_of e.queues) (with_directions edit e.directions)
  joined = queues_joined e.conf e.queues e.directions sound.in_order sound.sessions sound.silent edit
      (passes e.conf edit none)

  -- where what was on its way over sessions that are up is left, the network is the machine's own after the edit
  pub network_left : (q : Queues) → ((f t : Addr) → queue_at q f t ≡ left_at new e.queues f t) →
      network (edited_engine e edit q) ≡ after_edit (network e) edit
  unfolding network reconfigured
  network_left q is =
      λ i. record {
        conf = new;
        received = received_edited i;
        queues = (queues_left new e.queues q is (with_directions edit e.directions)
            ∙ ap (map (emptied new)) (sym joined)) i;
      }

  -- and where more comes to the ends, it does so in the network
  pub network_left_and_more : (more : Addr → Addr → List Message) (q : Queues) →
      ((f t : Addr) → queue_at q f t ≡ left_at new e.queues f t ++ more f t) →
      network (edited_engine e edit q) ≡ record (after_edit (network e) edit) {
        queues =
            map (λ y. with_more y (more y.of.from y.of.to)) (after_edit (network e) edit).queues;
      }
  unfolding network reconfigured
  network_left_and_more more q is =
      λ i. record {
        conf = new;
        received = received_edited i;
        queues = (queues_left_and_more new e.queues more q is (with_directions edit e.directions)
            ∙ ap (λ qs. map (λ y. with_more y (more y.of.from y.of.to)) (map (emptied new) qs)) (sym joined)) i;
      }
