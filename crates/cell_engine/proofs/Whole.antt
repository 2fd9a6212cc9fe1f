-- What is planned of cells beside the tables is what comes of them there; done one after another, it is all of the
-- changes.
use Rattle.std.proofs.Common.{◌≡◌, ℕ, Bool, true, false, cond, List, [], ◌∷◌, ◌++◌, map, filter, Option, Some, None, is_some, unwrap_or, refl, sym, ap, subst, ◌∙◌}
use Rattle.std.proofs.lemmas.List.{map-append}
use Rattle.std.proofs.lemmas.Option.{none-some}
use Rattle.std.specs.declared.cmp.Ordering.{Ordering}
use Rattle.std.specs.declared.cmp.Ordering.TheVariants.{Less, Equal, Greater}
use Rattle.std.specs.Ordering.{is_eq, ordering_then, ordering_reverse}
use Rattle.std.specs.Option.{option_map_or}
use Rattle.std.specs.List.{AllByRecursion}
use Rattle.std.specs.List.Sorted.{IsStrictlySortedBy}
use Rattle.std.specs.FinMap as finite
use Rattle.net_prefix.specs.declared.addr.Addr.{Addr}
use Rattle.net_prefix.specs.Address.{addr_cmp}
use Rattle.net_prefix.specs.Orders.{addr_total, prefix_total}
use Rattle.net_prefix.specs.Prefix.{Prefix, prefix_cmp}
use Rattle.net_conf.specs.Configuration.{Configuration}
use Rattle.net_conf.specs.Configured.{IsConfigured}
use Rattle.net_conf.specs.RouterSites.{router_site}
use Rattle.net_conf.specs.declared.site.SiteConf.{SiteConf}
use Rattle.net_conf.proofs.RouterLaws.{site_of_router, site_sessions_in_order}
use Rattle.prefix_table.specs.Tables.{Table}
use Rattle.cell_engine.specs.RouterTables.{table_at, value_at, with_value}
use Rattle.cell_engine.specs.Cells.{Cell, Outcome, new_cell, decided}
use Rattle.cell_engine.specs.SiteMoves.{SitePair, is_moved}
use Rattle.cell_engine.specs.Recosting.{recosted}
use Rattle.cell_engine.proofs.Recosted.{recosted_alone}
use Rattle.cell_engine.specs.State.{State, IsConsistent, cell_at}
use Rattle.cell_engine.specs.Changes.{Change, with_changes, sends_for}
use Rattle.cell_engine.specs.Decisions.{cell_cmp}
use Rattle.cell_engine.specs.Moves.{is_moved_by, moves}
use Rattle.cell_engine.specs.Settled.{AreThere}
use Rattle.cell_engine.proofs.Ascending.{cell_of, changes_in_order}
use Rattle.cell_engine.proofs.Decided.{is_cell, value_with_cell, still_there}
use Rattle.cell_engine.proofs.Placed.{cells_found}
use Rattle.cell_engine.specs.CellEdits.{CellEdit, outcome_of, edits_send, whole_change, whole_changes, AreEditsThere, with_edit, with_edits}
use Rattle.cell_engine.specs.Becomings.{Becoming, MovedCell, AreOf, pair_of, recost_in, edit_by, edit_at, change_of, change_at, moved_cells, all_moved}
use Rattle.net_conf.specs.declared.edit.Edit.{Edit}
use Rattle.net_conf.specs.Edits.{edited}
use Rattle.net_conf.specs.Scopes.{scope}
use Rattle.cell_engine.specs.Edits.{Edited, Made, IsPlanned, made_in, refreshed_by}
use Rattle.cell_engine.proofs.Remade.{remade, remade_by_router, pair_some}

-- WHAT IS SENT

sent_by : (o : Option Outcome) (h : Cell) → (unwrap_or o (record { cell = h; sends = [] })).sends
    ≡ option_map_or (λ (x : Outcome). x.sends) o []
sent_by None h = refl
sent_by (Some o) h = refl

-- what is planned to be sent is what is sent
pub sends_whole : (ts : List (Addr × Table Cell)) (xs : List CellEdit) → sends_for (whole_changes ts xs) ≡ edits_send xs
sends_whole ts [] = refl
sends_whole ts (x ∷ xs) = λ i. (x.router, sent_by x.remade (recosted x.cost (cell_at x.router x.prefix ts)) i)
    ∷ sends_whole ts xs i

-- WHICH CELLS

abbrev pub place_of : CellEdit → Addr × Prefix
place_of x = (x.router, x.prefix)

pub places_whole : (ts : List (Addr × Table Cell)) (xs : List CellEdit) →
    map cell_of (whole_changes ts xs) ≡ map place_of xs
places_whole ts [] = refl
places_whole ts (x ∷ xs) = ap (λ l. place_of x ∷ l) (places_whole ts xs)

-- there is a cell for each
pub edits_there : (us ts : List (Addr × Table Cell)) (xs : List CellEdit) → AreThere (whole_changes us xs) ts →
    AreEditsThere xs ts
edits_there us ts [] all = tt
edits_there us ts (x ∷ xs) all = (all.0, edits_there us ts xs all.1)

-- a cell that is put in leaves each of the others there
pub edits_there_still : (x : CellEdit) (ys : List CellEdit) (ts : List (Addr × Table Cell)) → AreEditsThere ys ts →
    AreEditsThere ys (with_edit x ts)
edits_there_still x [] ts all = tt
edits_there_still x (y ∷ ys) ts all =
    let h : Cell = (outcome_of x (cell_at x.router x.prefix ts)).cell in (
      ap is_some (value_with_cell x.router x.prefix h ts y.router y.prefix)
          ∙ still_there _ _ h (value_at y.router y.prefix ts) all.0,
      edits_there_still x ys ts all.1,
    )

module _ (holds : Addr → Bool) where
  places_by : (ts : List (Addr × Table Cell)) (b : Bool) (x : CellEdit) (xs : List CellEdit)
      → map place_of (filter (λ y. holds y.router) xs)
      ≡ map cell_of (filter (λ y. holds y.router) (whole_changes ts xs))
      → map place_of (cond b (x ∷ filter (λ y. holds y.router) xs) (filter (λ y. holds y.router) xs))
      ≡ map cell_of (cond b (whole_change ts x ∷ filter (λ y. holds y.router) (whole_changes ts xs))
      (filter (λ y. holds y.router) (whole_changes ts xs)))
  places_by ts true x xs rest = ap (λ l. place_of x ∷ l) rest
  places_by ts false x xs rest = rest

  chosen_places : (ts : List (Addr × Table Cell)) (xs : List CellEdit) → map place_of (filter (λ y. holds y.router) xs)
      ≡ map cell_of (filter (λ y. holds y.router) (whole_changes ts xs))
  chosen_places ts [] = refl
  chosen_places ts (x ∷ xs) = places_by ts (holds x.router) x xs (chosen_places ts xs)

-- the routers' cells among what is made
abbrev pub refreshed_of : Made → List (Addr × Prefix)
refreshed_of x = map (λ (y : Change). (y.router, y.prefix))
    (filter (λ y. is_some (router_site x.conf y.router)) x.changes)

-- are those of the plan
pub refreshed_whole : (ts : List (Addr × Table Cell)) (x : Edited) → refreshed_by x ≡ refreshed_of (made_in ts x)
refreshed_whole ts x = chosen_places (λ r. is_some (router_site x.conf r)) ts x.edits

-- ONE AFTER ANOTHER

then_not : (o u : Ordering) → ordering_then o u ≡ Less → (v : Option Cell) (w : Option Cell) →
    cond (is_eq (ordering_reverse o)) (cond (is_eq (ordering_reverse u)) w v) v ≡ v
then_not Less u less v w = refl
then_not Greater u less v w = refl
then_not Equal Less less v w = refl
then_not Equal Greater less v w = refl
then_not Equal Equal less v w = cc

-- a cell that is put in leaves those after it as they are
value_after : (r s : Addr) (p q : Prefix) (h : Cell) (ts : List (Addr × Table Cell)) → cell_cmp (r, p) (s, q) ≡ Less →
    value_at s q (with_value r p h ts) ≡ value_at s q ts
value_after r s p q h ts less =
    value_with_cell r p h ts s q
    ∙ (λ i. cond (is_eq (addr_total.antisymm s r i))
    (cond (is_eq (prefix_total.antisymm q p i)) (Some h) (value_at s q ts)) (value_at s q ts))
    ∙ then_not (addr_cmp r s) (prefix_cmp p q) less (value_at s q ts) (Some h)

whole_after : (x : Addr × Prefix) (h : Cell) (ts : List (Addr × Table Cell)) (ys : List CellEdit) →
    AllByRecursion (λ y. cell_cmp x y ≡ Less) (map place_of ys) →
    whole_changes (with_value x.0 x.1 h ts) ys ≡ whole_changes ts ys
whole_after x h ts [] all = refl
whole_after x h ts (y ∷ ys) all = λ i. record {
  router = y.router;
  prefix = y.prefix;
  outcome = outcome_of y (unwrap_or (value_after x.0 y.router x.1 y.prefix h ts all.0 i) new_cell);
}
    ∷ whole_after x h ts ys all.1 i

-- in order, each cell once, they make all of the changes
pub placed_whole : (xs : List CellEdit) (ts : List (Addr × Table Cell)) →
    IsStrictlySortedBy cell_cmp (map place_of xs) → with_edits xs ts ≡ with_changes (whole_changes ts xs) ts
unfolding IsStrictlySortedBy
placed_whole [] ts sorted = refl
placed_whole (x ∷ xs) ts sorted =
    let h : Cell = (outcome_of x (cell_at x.router x.prefix ts)).cell in
    placed_whole xs (with_edit x ts) sorted.1
    ∙ ap (λ l. with_changes l (with_edit x ts)) (whole_after (place_of x) h ts xs sorted.0)

-- a plan done is what the edit makes of the tables
pub plan_placed : (e : State) → IsConsistent e → (edit : Edit) (x : Edited) → IsPlanned e edit x →
    with_edits x.edits e.tables ≡ with_changes (whole_changes e.tables x.edits) e.tables
plan_placed e sound edit x is =
    let new = edited e.conf edit in
    let ordered = changes_in_order (moves e.conf new) e.conf new (scope edit) e.tables sound.by_address in
    placed_whole x.edits e.tables
    (subst (IsStrictlySortedBy cell_cmp) (sym (ap (λ (y : Made). map cell_of y.changes) is.plan)
    ∙ places_whole e.tables x.edits) ordered)

-- WHAT IS PLANNED

module _ (e : State) (sound : IsConsistent e) (configured : IsConfigured e.conf) where
  module _ (after : Configuration) (r : Addr) where
    abbrev b : Becoming
    b = record { before = e.conf; after = after; address = r }

    -- the router's parts of the configurations, where it stands there
    abbrev old : Option SiteConf
    old = router_site e.conf r

    abbrev new : Option SiteConf
    new = router_site after r

    whole_by : (p : Prefix) (h : Cell) → value_at r p e.tables ≡ Some h → is_moved_by old new after r p h ≡ true →
        (o : Option SitePair) → pair_of old new ≡ o → (k : Option ℕ) → recost_in o p h ≡ k →
        whole_change e.tables (edit_by k b p h) ≡ change_of b p h
    whole_by p h at moves o pair None cost = refl
    whole_by p h at moves None pair (Some k) cost = absurd (none-some k cost)
    whole_by p h at moves (Some s) pair (Some k) cost =
        let both = pair_some old new s (sym pair) in
        let is = is_cell e sound r p h at in
        let was : h ≡ decided (Some s.old) p h.received = is.decided ∙ ap (λ o. decided o p h.received) both.0 in
        let peers = site_sessions_in_order e.conf r s.old configured (site_of_router e.conf r s.old both.0) in
        let moved : is_moved s p h.received ≡ true = (λ i. is_moved_by (sym both.0 i) (sym both.1 i) after r p h)
        ∙ moves in
        ap (λ x. made (record { cell = recosted k (unwrap_or x new_cell); sends = [] })) at
        ∙ ap made (sym (recosted_alone s p h k was peers moved cost))
        ∙ ap made (remade_by_router after (Some s.old) s.new r p h both.1)
        ∙ (λ i. made (remade after (sym both.0 i) (sym both.1 i) r p h))
      where
        made : Outcome → Change
        made o = record { router = r; prefix = p; outcome = o }

    -- each cell as it stands
    pub whole_cells : (cells : List (Prefix × Cell)) → AllByRecursion (λ x. value_at r x.0 e.tables ≡ Some x.1) cells →
        whole_changes e.tables (map edit_at (moved_cells b cells)) ≡ map change_at (moved_cells b cells)
    whole_cells [] all = refl
    whole_cells (c ∷ cs) all = by (is_moved_by old new after r c.0 c.1) refl (whole_cells cs all.1)
      where
        chosen : List (Prefix × Cell)
        chosen = filter (λ x. is_moved_by old new after r x.0 x.1) cs

        cell : Prefix × Cell → MovedCell
        cell x = record { becoming = b; prefix = x.0; cell = x.1 }

        by : (m : Bool) → is_moved_by old new after r c.0 c.1 ≡ m →
            whole_changes e.tables (map edit_at (map cell chosen)) ≡ map change_at (map cell chosen)
            → whole_changes e.tables (map edit_at (map cell (cond m (c ∷ chosen) chosen)))
            ≡ map change_at (map cell (cond m (c ∷ chosen) chosen))
        by true is rest = λ i. whole_by c.0 c.1 all.0 is (pair_of old new) refl
            (recost_in (pair_of old new) c.0 c.1) refl i ∷ rest i
        by false is rest = rest

    pub whole_table : whole_changes e.tables (map edit_at (moved_cells b (finite.entries (table_at r e.tables))))
        ≡ map change_at (moved_cells b (finite.entries (table_at r e.tables)))
    whole_table = whole_cells (finite.entries (table_at r e.tables))
        (cells_found e.conf after e.tables r (table_at r e.tables) refl)

  -- of all of these
  pub whole_all : (bs : List Becoming) → AreOf e.conf bs → whole_changes e.tables (map edit_at (all_moved bs e.tables))
      ≡ map change_at (all_moved bs e.tables)
  whole_all [] of = refl
  whole_all (x ∷ xs) of =
      let cells : List (Prefix × Cell) = finite.entries (table_at x.address e.tables) in
      let here : List MovedCell = moved_cells x cells in
      let rest : List MovedCell = all_moved xs e.tables in
      let P : Configuration → Type 0 =
      λ c. whole_changes e.tables
      (map edit_at (moved_cells (record { before = c; after = x.after; address = x.address }) cells))
      ≡ map change_at (moved_cells (record { before = c; after = x.after; address = x.address }) cells) in
      let one : P x.before = subst P (sym of.0) (whole_table x.after x.address) in
      ap (whole_changes e.tables) (map-append edit_at here rest)
      ∙ map-append (whole_change e.tables) (map edit_at here) (map edit_at rest)
      ∙ (λ i. one i ++ whole_all xs of.1 i)
      ∙ sym (map-append change_at here rest)
