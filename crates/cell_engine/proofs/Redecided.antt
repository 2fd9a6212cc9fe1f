-- The cells that an edit's plan decides anew are in order, hold all at which a route stands otherwise, and are touched.
use Rattle.std.proofs.Common.{◌≡◌, ◌⊎◌, inl, inr, Bool, true, false, cond, not, ◌&&◌, ◌||◌, List, [], ◌∷◌, map, filter, Option, Some, None, option_map, is_some, unwrap_or, refl, sym, ap, subst, ◌∙◌}
use Rattle.std.proofs.lemmas.Bool.{true≢false}
use Rattle.std.specs.declared.cmp.Ordering.{Ordering}
use Rattle.std.specs.declared.cmp.Ordering.TheVariants.{Less, Equal, Greater}
use Rattle.std.specs.Ordering.{is_eq, ordering_then}
use Rattle.std.specs.Option.{option_map_or}
use Rattle.std.specs.List.{AllByRecursion, list_any}
use Rattle.net_prefix.specs.declared.addr.Addr.{Addr}
use Rattle.net_prefix.specs.Address.{addr_cmp}
use Rattle.net_prefix.specs.Orders.{addr_exact}
use Rattle.net_prefix.specs.Prefix.{Prefix, prefix_cmp}
use Rattle.session_queue.specs.Lines.{messages_at}
use Rattle.session_queue.specs.Waiting.{nothing_waits, queue_at}
use Rattle.net_conf.specs.declared.edit.Edit.{Edit}
use Rattle.net_conf.specs.declared.tables.Node.{Node}
use Rattle.net_conf.specs.declared.tables.Kind.TheVariants.{Router, Virtual}
use Rattle.net_conf.specs.Configuration.{Configuration, node_at, is_kind_virtual}
use Rattle.net_conf.specs.Configured.{IsConfigured}
use Rattle.net_conf.specs.Edits.{edited, refusal_of}
use Rattle.net_conf.specs.RouterSites.{router_site}
use Rattle.net_conf.specs.declared.site.SiteConf.{SiteConf}
use Rattle.net_conf.specs.Scopes.{scope}
use Rattle.route_select.specs.Selection.{no_standings}
use Rattle.reference_machine.specs.Decision.{standings}
use Rattle.reference_machine.specs.Machine.{after_edit, with_sent, reconfigured}
use Rattle.reference_machine.specs.Network.{Network}
use Rattle.cell_engine.specs.Cells.{Cell, new_cell, effective}
use Rattle.cell_engine.specs.Changes.{Change, AreOverSessionsUp, changes_in}
use Rattle.cell_engine.specs.Decisions.{standings_at, HasStanding, AreFactsMoved, IsTouched, is_cell_of, IsRefreshed}
use Rattle.cell_engine.specs.Editing.{with_origin, edited_engine}
use Rattle.cell_engine.specs.State.{State, IsConsistent, cell_at, network}
use Rattle.cell_engine.specs.Keeping.{kept_from, kept_cell, kept_tables}
use Rattle.cell_engine.specs.Moves.{moves}
use Rattle.cell_engine.proofs.Ascending.{changes_in_order, chosen_in_order}
use Rattle.cell_engine.proofs.Decided.{is_cell}
use Rattle.cell_engine.proofs.Decisions.{standings_in_cell}
use Rattle.cell_engine.proofs.AfterEdit.{sound_edited, received_edited}
use Rattle.cell_engine.proofs.Kept.{value_kept}
use Rattle.cell_engine.proofs.Placed.{has_one, IsChosen, changes_chosen, value_unchanged}
use Rattle.cell_engine.proofs.Routers.{is_router_node, site_of_node, no_router_before, new_router_has_no_cell}
use Rattle.cell_engine.proofs.Touched.{Touches, touched}
use Rattle.cell_engine.specs.Edits.{Edited, planned, IsPlanned, refreshed_by, has_router_kind}
use Rattle.cell_engine.proofs.Reconfigured.{settled, unmoved, tables_are}
use Rattle.cell_engine.proofs.Whole.{refreshed_of, refreshed_whole}

-- ROUTERS

kind_by : (o : Option Node) → has_router_kind (option_map (λ n. (n.asn, n.kind)) o) ≡ is_router_node o
kind_by None = refl
kind_by (Some n) = elim n.kind as (λ k. has_router_kind (Some (n.asn, k)) ≡ not (is_kind_virtual k)) [
  | Router ↦
      refl
  | Virtual ↦ refl
]

-- a router stands where the configuration has one
pub router_by_kind : (c : Configuration) (r : Addr) → has_router_kind (option_map (λ n. (n.asn, n.kind)) (node_at c r))
    ≡ is_some (router_site c r)
router_by_kind c r = kind_by (node_at c r) ∙ sym (site_of_node c r)

-- ONE CELL

then_equal : (a b : Ordering) → is_eq (ordering_then a b) ≡ (is_eq a && is_eq b)
then_equal Less b = refl
then_equal Equal b = refl
then_equal Greater b = refl

module _ (d : Configuration) (r : Addr) (p : Prefix) (router : is_some (router_site d r) ≡ true) where
  abbrev at_routers : List Change → List Change
  at_routers xs = filter (λ y. is_some (router_site d y.router)) xs

  either_false : (a b : Bool) → (a || b) ≡ false → (a ≡ false) × (b ≡ false)
  either_false true b h = absurd (true≢false h)
  either_false false b h = (refl, h)

  -- a router's cell that is not among those of routers is not among all
  not_among : (xs : List Change) →
      list_any (is_cell_of r p) (map (λ (y : Change). (y.router, y.prefix)) (at_routers xs)) ≡ false →
      has_one r p xs ≡ false
  not_among [] none = refl
  not_among (x ∷ xs) none = by (is_some (router_site d x.router)) refl none (not_among xs)
    where
      other : (o : Ordering) → addr_cmp r x.router ≡ o → is_some (router_site d x.router) ≡ false → is_eq o ≡ false
      other Less at off = refl
      other Greater at off = refl
      other Equal at off = absurd
          (true≢false (sym router ∙ ap (λ a. is_some (router_site d a)) (addr_exact r x.router at) ∙ off))

      by : (here : Bool) → is_some (router_site d x.router) ≡ here →
          list_any (is_cell_of r p)
          (map (λ (y : Change). (y.router, y.prefix)) (cond here (x ∷ at_routers xs) (at_routers xs))) ≡ false →
          (list_any (is_cell_of r p) (map (λ (y : Change). (y.router, y.prefix)) (at_routers xs)) ≡ false →
          has_one r p xs ≡ false) → has_one r p (x ∷ xs) ≡ false
      by true is off later =
          let parts = either_false (is_cell_of r p (x.router, x.prefix))
          (list_any (is_cell_of r p) (map (λ (y : Change). (y.router, y.prefix)) (at_routers xs))) off in
          (λ i. (sym (then_equal (addr_cmp r x.router) (prefix_cmp p x.prefix)) ∙ parts.0) i || later parts.1 i)
      by false is off later = (λ i. (other (addr_cmp r x.router) refl is i && is_eq (prefix_cmp p x.prefix))
          || later off i)

-- what holds of each holds of those that are chosen, with the choice
chosen_all : (P Q : Change → Type 0) (f : Change → Bool) → ((x : Change) → P x → f x ≡ true → Q x) →
    (xs : List Change) → AllByRecursion P xs → AllByRecursion Q (filter f xs)
chosen_all P Q f h [] all = tt
chosen_all P Q f h (x ∷ xs) all = by (f x) refl (chosen_all P Q f h xs all.1)
  where
    by : (here : Bool) → f x ≡ here → AllByRecursion Q (filter f xs) →
        AllByRecursion Q (cond here (x ∷ filter f xs) (filter f xs))
    by true is rest = (h x all.0 is, rest)
    by false is rest = rest

mapped_all : (Q : Addr × Prefix → Type 0) (xs : List Change) → AllByRecursion (λ x. Q (x.router, x.prefix)) xs →
    AllByRecursion Q (map (λ (x : Change). (x.router, x.prefix)) xs)
mapped_all Q [] all = tt
mapped_all Q (x ∷ xs) all = (all.0, mapped_all Q xs all.1)

module _ (e : State) (sound : IsConsistent e) (configured : IsConfigured e.conf)
    (up : AreOverSessionsUp e.conf e.tables) (edit : Edit) (allowed : refusal_of e.conf edit ≡ None)
    (origin : with_origin edit e.tables ≡ e.tables) where
  abbrev new : Configuration
  new = edited e.conf edit

  abbrev next : Network
  next = with_sent (network e) (after_edit (network e) edit)

  abbrev changes : List Change
  changes = changes_in (scope edit) e.conf new e.tables

  no_queue : (f t : Addr) → queue_at nothing_waits f t ≡ []
  unfolding queue_at messages_at
  no_queue f t = refl

  abbrev later : State
  later = edited_engine e edit nothing_waits

  later_sound : IsConsistent later
  later_sound = sound_edited e sound edit allowed nothing_waits (λ f t off. no_queue f t)

  same_network : (r : Addr) (p : Prefix) → standings_at next r p ≡ standings_at (network later) r p
  unfolding with_sent reconfigured network
  same_network r p = ap (λ es. option_map_or (λ site. effective (standings site p es)) (router_site new r)
      (no_standings false)) (sym (received_edited e sound edit allowed))

  stood_before : (r : Addr) (p : Prefix) → standings_at (network e) r p ≡ (cell_at r p e.tables).standings
  stood_before r p = standings_in_cell e sound r p

  stood_after : (r : Addr) (p : Prefix) → standings_at next r p ≡ (cell_at r p (kept_tables new e.tables)).standings
  stood_after r p =
      same_network r p
      ∙ standings_in_cell later later_sound r p
      ∙ ap (λ ts. (cell_at r p (kept_tables new ts)).standings) origin

  empty_before : (r : Addr) (p : Prefix) → router_site e.conf r ≡ None →
      standings_at (network e) r p ≡ no_standings false
  unfolding network
  empty_before r p at = ap (λ o. option_map_or (λ site. effective (standings site p (network e).received)) o
      (no_standings false)) at

  empty_later : (r : Addr) (p : Prefix) → router_site new r ≡ None →
      standings_at (network later) r p ≡ no_standings false
  unfolding network
  empty_later r p at = ap (λ o. option_map_or (λ site. effective (standings site p (network later).received)) o
      (no_standings false)) at

  none_stands : (r : Addr) (p : Prefix) → router_site new r ≡ None →
      standings_at (network e) r p ≡ standings_at next r p
  none_stands r p at = empty_before r p (no_router_before e.conf edit allowed r at)
      ∙ sym (same_network r p ∙ empty_later r p at)

  -- where a cell is not decided anew, each route stands as before
  complete : (r : Addr) (p : Prefix) → list_any (is_cell_of r p) (refreshed_of (planned e edit)) ≡ false →
      standings_at (network e) r p ≡ standings_at next r p
  complete r p none = by (router_site new r) refl
    where
      by : (o : Option SiteConf) → router_site new r ≡ o → standings_at (network e) r p ≡ standings_at next r p
      by None at = none_stands r p at
      by (Some site) at =
          stood_before r p
          ∙ ap (λ (o : Option Cell). (unwrap_or o new_cell).standings)
          (sym (value_unchanged (moves e.conf new) (scope edit) e.conf new e.tables sound.by_address
          (settled e sound configured up edit) (unmoved e sound configured up edit) r p
          (not_among new r p (ap is_some at) changes none)))
          ∙ ap (λ ts. (cell_at r p ts).standings) (tables_are e sound configured up edit)
          ∙ sym (stood_after r p)

  -- each is touched
  module _ (x : Change) (chosen : IsChosen e.conf new e.tables (moves e.conf new) x)
      (router : is_some (router_site new x.router) ≡ true) where
    abbrev r : Addr
    r = x.router

    abbrev p : Prefix
    p = x.prefix

    abbrev h : Cell
    h = chosen.cell

    before_is : standings_at (network e) r p ≡ h.standings
    before_is = stood_before r p ∙ ap (λ (o : Option Cell). (unwrap_or o new_cell).standings) chosen.at

    after_is : standings_at next r p ≡ (kept_cell new r p h).standings
    after_is =
        stood_after r p
        ∙ ap (λ (o : Option Cell). (unwrap_or o new_cell).standings) (value_kept new r p e.tables
        ∙ ap (option_map (kept_cell new r p)) chosen.at)

    kept : kept_from e.conf r h.received ≡ h.received
    kept = subst (λ o. kept_from e.conf r (unwrap_or o new_cell).received ≡ (unwrap_or o new_cell).received) chosen.at
        (up r p)

    touches : Touches e.conf new configured r p h (is_cell e sound r p h chosen.at).by_sender kept
        (is_cell e sound r p h chosen.at).decided
    touches =
        touched e.conf new configured r p h (is_cell e sound r p h chosen.at).by_sender kept
        (is_cell e sound r p h chosen.at).decided chosen.chosen
        (λ at. new_router_has_no_cell e.conf edit allowed configured r at router h.received kept)
        (λ gone. true≢false (sym router ∙ ap is_some gone))

    standing_by : (h.standings ≡ no_standings false → ⊥) ⊎ ((kept_cell new r p h).standings ≡ no_standings false → ⊥) →
        HasStanding (network e) r p ⊎ HasStanding next r p
    standing_by (inl before) = inl (λ none. before (sym before_is ∙ none))
    standing_by (inr after) = inr (λ none. after (sym after_is ∙ none))

    is_touched : IsTouched (network e) next r p
    unfolding with_sent reconfigured network
    is_touched = by touches
      where
        by : (h.standings ≡ (kept_cell new r p h).standings → ⊥)
            ⊎ (AreFactsMoved (router_site e.conf r) (router_site new r)
            × ((h.standings ≡ no_standings false → ⊥) ⊎ ((kept_cell new r p h).standings ≡ no_standings false → ⊥))) →
            IsTouched (network e) next r p
        by (inl apart) = inl (λ same. apart (sym before_is ∙ same ∙ after_is))
        by (inr facts) = inr (facts.0, standing_by facts.1)

  -- what the edit decides anew
  made_refreshes : IsRefreshed (network e) next (refreshed_of (planned e edit))
  made_refreshes = record {
    ascending = chosen_in_order (λ y. is_some (router_site new y.router)) changes
        (changes_in_order (moves e.conf new) e.conf new (scope edit) e.tables sound.by_address);
    complete = complete;
    touched = mapped_all (λ x. IsTouched (network e) next x.0 x.1)
        (filter (λ y. is_some (router_site new y.router)) changes)
        (chosen_all (IsChosen e.conf new e.tables (moves e.conf new))
        (λ y. IsTouched (network e) next y.router y.prefix)
        (λ y. is_some (router_site new y.router)) is_touched changes
        (changes_chosen e.conf new e.tables (moves e.conf new) (scope edit) sound.by_address));
  }

  -- what its plan does
  pub refreshes : (x : Edited) → IsPlanned e edit x → IsRefreshed (network e) next (refreshed_by x)
  refreshes x is = subst (IsRefreshed (network e) next)
      (sym (refreshed_whole e.tables x ∙ ap refreshed_of is.plan)) made_refreshes
