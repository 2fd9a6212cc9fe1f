-- The changes of an edit, each put in its place: the tables with each of their cells decided anew.
use Rattle.std.proofs.Common.{◌≡◌, Bool, true, false, cond, ◌&&◌, ◌||◌, List, [], ◌∷◌, ◌++◌, map, filter, Option, Some, None, option_map, is_some, IsTrue, unwrap_or, refl, sym, ap, ◌∙◌}
use Rattle.std.proofs.lemmas.Bool.{true≢false, and_parts}
use Rattle.std.proofs.lemmas.List.Folds.{list_any-append}
use Rattle.std.specs.declared.cmp.Ordering.{Ordering}
use Rattle.std.specs.declared.cmp.Ordering.TheVariants.{Less, Equal, Greater}
use Rattle.std.specs.Ordering.{is_eq, eq_by_cmp}
use Rattle.std.specs.Cmp.{tied_itself, Equal-is}
use Rattle.std.proofs.lemmas.Option.{none-some, same_Some}
use Rattle.std.specs.Option.{option_to_list}
use Rattle.std.specs.List.{AllByRecursion, list_any, flat_map}
use Rattle.std.specs.FinMap as finite
use Rattle.std.specs.FinMap.Entries as entries
use Rattle.net_prefix.specs.declared.addr.Addr.{Addr}
use Rattle.net_prefix.specs.Address.{same_addr, addr_cmp}
use Rattle.net_prefix.specs.Prefix.{Prefix, prefix_cmp, same_prefix}
use Rattle.net_prefix.specs.Orders.{addr_total, addr_exact, prefix_total, prefix_exact}
use Rattle.prefix_table.specs.Tables.{Table}
use Rattle.net_conf.specs.Configuration.{Configuration}
use Rattle.cell_engine.specs.RouterTables.{table_at, value_at, with_value}
use Rattle.cell_engine.specs.Cells.{Cell}
use Rattle.net_conf.specs.declared.edit.Scope.{Scope}
use Rattle.net_conf.specs.declared.edit.Scope.TheVariants.{Network, Site, Route}
use Rattle.cell_engine.specs.Keeping.{kept_cell, kept_table, kept_tables}
use Rattle.cell_engine.specs.Changes.{Change, Choice, cell_change, router_changes, changes_where, with_changes}
use Rattle.cell_engine.specs.Settled.{is_in, AreSettledOutside, AreSettledBut, AreThere}
use Rattle.cell_engine.proofs.Chunks.{T_of, of_T}
use Rattle.cell_engine.proofs.Decided.{value_with_cell, by_address_with_cell}
use Rattle.cell_engine.proofs.Kept.{find_revalued, value_kept, by_address_kept}
use Rattle.cell_engine.proofs.Offers.{same_addr_true, prefix_tied}
use Rattle.cell_engine.proofs.Refreshed.{all_from, found_each, some_mapped}

-- TABLES THAT ARE ALIKE

same_option : {V : Type 0} (o u : Option (Table V)) → is_some o ≡ is_some u →
    ((p : Prefix) → finite.get (unwrap_or o finite.empty) p ≡ finite.get (unwrap_or u finite.empty) p) → o ≡ u
same_option None None there same = refl
same_option None (Some u) there same = absurd (true≢false (sym there))
same_option (Some t) None there same = absurd (true≢false there)
same_option (Some t) (Some u) there same = ap Some (finite.same_map prefix_total prefix_exact t u same)

-- tables of the same routers with the same values are the same
pub tables_same : {V : Type 0} (ts us : List (Addr × Table V)) → IsTrue (entries.is_sorted addr_cmp ts) →
    IsTrue (entries.is_sorted addr_cmp us)
    → ((r : Addr) → is_some (entries.find addr_cmp r ts) ≡ is_some (entries.find addr_cmp r us))
    → ((r : Addr) (p : Prefix) → value_at r p ts ≡ value_at r p us)
    → ts ≡ us
tables_same ts us sorted sorted_too there same =
    entries.same_entries addr_cmp addr_total addr_exact ts us (T_of _ sorted) (T_of _ sorted_too)
    (λ r. same_option (entries.find addr_cmp r ts) (entries.find addr_cmp r us) (there r) (same r))

-- where there is a value, there is a table
table_there : {V : Type 0} (p : Prefix) (o : Option (Table V)) → is_some (finite.get (unwrap_or o finite.empty) p)
    ≡ true → is_some o ≡ true
table_there p None there = sym (ap is_some (finite.get-empty prefix_cmp p)) ∙ there
table_there p (Some t) there = refl

-- LISTS AND TESTS

all_append : {A : Type 0} (P : A → Type 0) (xs ys : List A) → AllByRecursion P xs → AllByRecursion P ys →
    AllByRecursion P (xs ++ ys)
all_append P [] ys all more = more
all_append P (x ∷ xs) ys all more = (all.0, all_append P xs ys all.1 more)

or_true : (a b : Bool) → b ≡ true → (a || b) ≡ true
or_true true b h = refl
or_true false b h = h

either_way : {A : Type 0} (a b : Bool) (x y : A) → cond b x (cond a x y) ≡ cond (a || b) x y
either_way true true x y = refl
either_way true false x y = refl
either_way false b x y = refl

no_matter : {A : Type 0} (b : Bool) (x : A) → cond b x x ≡ x
no_matter true x = refl
no_matter false x = refl

same_prefix_true : (p q : Prefix) → same_prefix p q ≡ true → p ≡ q
same_prefix_true p q h = prefix_exact p q ((Equal-is (prefix_cmp p q)).0 (sym (prefix_tied p q) ∙ h))

tied_prefix : (p : Prefix) → prefix_cmp p p ≡ Equal
tied_prefix p = tied_itself prefix_total p

-- CHANGES OF CELLS THAT ARE THERE

-- the change is for the router's cell
abbrev pub is_for : Addr → Prefix → Change → Bool
is_for r p x = eq_by_cmp addr_cmp r x.router && eq_by_cmp prefix_cmp p x.prefix

-- one of the changes is
abbrev pub has_one : Addr → Prefix → List Change → Bool
has_one r p xs = list_any (is_for r p) xs

module _ (c d : Configuration) (ts : List (Addr × Table Cell)) where
  -- the router's cell, decided anew
  abbrev kept_at : Addr → Prefix → Option Cell
  kept_at r p = option_map (kept_cell d r p) (value_at r p ts)

  -- the change is of a cell that is there, and makes of it the one that is kept
  abbrev IsKept : Change → Type 0
  IsKept x = kept_at x.router x.prefix ≡ Some x.outcome.cell

  kept_there : (x : Change) → IsKept x → is_some (value_at x.router x.prefix ts) ≡ true
  kept_there x is = sym (some_mapped (kept_cell d x.router x.prefix) (value_at x.router x.prefix ts)) ∙ ap is_some is

  -- of a router's table
  pub cells_found : (r : Addr) (t : Table Cell) → table_at r ts ≡ t →
      AllByRecursion (λ e. value_at r e.0 ts ≡ Some e.1) (finite.entries t)
  cells_found r t at =
      all_from (λ e. entries.find prefix_cmp e.0 (finite.entries t) ≡ Some e.1) _ (λ e found.
      ap (λ x. finite.get x e.0) at ∙ finite.get-entries t e.0 ∙ found) (finite.entries t)
      (found_each prefix_total (finite.entries t) (of_T _ (finite.entries_sorted t)))

  module _ (holds : Choice) where
    router_kept : (r : Addr) (cells : List (Prefix × Cell)) → AllByRecursion (λ e. value_at r e.0 ts ≡ Some e.1) cells →
        AllByRecursion IsKept (router_changes holds c d r cells)
    router_kept r [] all = tt
    router_kept r (e ∷ es) all = by (holds r e.0 e.1) (router_kept r es all.1)
      where
        by : (here : Bool) → AllByRecursion IsKept (router_changes holds c d r es) →
            AllByRecursion IsKept (map (λ x. cell_change c d r x.0 x.1)
            (cond here (e ∷ filter (λ x. holds r x.0 x.1) es) (filter (λ x. holds r x.0 x.1) es)))
        by true rest = (ap (option_map (kept_cell d r e.0)) all.0, rest)
        by false rest = rest

    -- of all routers
    network_kept : (us : List (Addr × Table Cell)) → AllByRecursion (λ t. entries.find addr_cmp t.0 ts ≡ Some t.1) us →
        AllByRecursion IsKept (flat_map (λ t. router_changes holds c d t.0 (finite.entries t.1)) us)
    network_kept [] all = tt
    network_kept (t ∷ us) all =
        all_append IsKept (router_changes holds c d t.0 (finite.entries t.1))
        (flat_map (λ t. router_changes holds c d t.0 (finite.entries t.1)) us)
        (router_kept t.0 (finite.entries t.1) (cells_found t.0 t.1 (ap (λ o. unwrap_or o finite.empty) all.0)))
        (network_kept us all.1)

    -- of one cell
    route_kept : (r : Addr) (p : Prefix) (o : Option Cell) → value_at r p ts ≡ o →
        AllByRecursion IsKept (router_changes holds c d r (option_to_list (option_map (λ h. (p, h)) o)))
    route_kept r p None at = tt
    route_kept r p (Some h) at = router_kept r ((p, h) ∷ []) (at, tt)

    changes_kept : (s : Scope) → IsTrue (entries.is_sorted addr_cmp ts) →
        AllByRecursion IsKept (changes_where holds s c d ts)
    changes_kept Network sorted = network_kept ts (found_each addr_total ts sorted)
    changes_kept (Site a) sorted = router_kept a (finite.entries (table_at a ts)) (cells_found a (table_at a ts) refl)
    changes_kept (Route a p) sorted = route_kept a p (value_at a p ts) refl

  -- a change of a cell that is there and that is chosen
  pub record IsChosen (holds : Choice) (x : Change) : Type 0 where
    pub cell : Cell
    pub at : value_at x.router x.prefix ts ≡ Some cell
    pub chosen : holds x.router x.prefix cell ≡ true

  module _ (holds : Choice) where
    router_chosen : (r : Addr) (cells : List (Prefix × Cell)) →
        AllByRecursion (λ e. value_at r e.0 ts ≡ Some e.1) cells →
        AllByRecursion (IsChosen holds) (router_changes holds c d r cells)
    router_chosen r [] all = tt
    router_chosen r (e ∷ es) all = by (holds r e.0 e.1) refl (router_chosen r es all.1)
      where
        by : (here : Bool) → holds r e.0 e.1 ≡ here → AllByRecursion (IsChosen holds) (router_changes holds c d r es) →
            AllByRecursion (IsChosen holds)
            (map (λ x. cell_change c d r x.0 x.1)
            (cond here (e ∷ filter (λ x. holds r x.0 x.1) es) (filter (λ x. holds r x.0 x.1) es)))
        by true is rest = (record { cell = e.1; at = all.0; chosen = is }, rest)
        by false is rest = rest

    network_chosen : (us : List (Addr × Table Cell)) →
        AllByRecursion (λ t. entries.find addr_cmp t.0 ts ≡ Some t.1) us →
        AllByRecursion (IsChosen holds) (flat_map (λ t. router_changes holds c d t.0 (finite.entries t.1)) us)
    network_chosen [] all = tt
    network_chosen (t ∷ us) all =
        all_append (IsChosen holds) (router_changes holds c d t.0 (finite.entries t.1))
        (flat_map (λ t. router_changes holds c d t.0 (finite.entries t.1)) us)
        (router_chosen t.0 (finite.entries t.1) (cells_found t.0 t.1 (ap (λ o. unwrap_or o finite.empty) all.0)))
        (network_chosen us all.1)

    route_chosen : (r : Addr) (p : Prefix) (o : Option Cell) → value_at r p ts ≡ o →
        AllByRecursion (IsChosen holds) (router_changes holds c d r (option_to_list (option_map (λ h. (p, h)) o)))
    route_chosen r p None at = tt
    route_chosen r p (Some h) at = router_chosen r ((p, h) ∷ []) (at, tt)

    -- each change is of a cell that is there and that is chosen
    pub changes_chosen : (s : Scope) → IsTrue (entries.is_sorted addr_cmp ts) →
        AllByRecursion (IsChosen holds) (changes_where holds s c d ts)
    changes_chosen Network sorted = network_chosen ts (found_each addr_total ts sorted)
    changes_chosen (Site a) sorted = router_chosen a (finite.entries (table_at a ts))
        (cells_found a (table_at a ts) refl)
    changes_chosen (Route a p) sorted = route_chosen a p (value_at a p ts) refl

  -- THE TABLES AFTER THEM

  one_placed : (x : Change) → IsKept x → (us : List (Addr × Table Cell)) (r : Addr) (p : Prefix) →
      value_at r p (with_value x.router x.prefix x.outcome.cell us)
      ≡ cond (is_for r p x) (kept_at r p) (value_at r p us)
  one_placed x is us r p = value_with_cell x.router x.prefix x.outcome.cell us r p
      ∙ by_orders (addr_cmp r x.router) (prefix_cmp p x.prefix) refl refl where
        by_orders : (a b : Ordering) → addr_cmp r x.router ≡ a → prefix_cmp p x.prefix ≡ b
            → cond (is_eq a) (cond (is_eq b) (Some x.outcome.cell) (value_at r p us)) (value_at r p us)
            ≡ cond (is_eq a && is_eq b) (kept_at r p) (value_at r p us)
        by_orders Less b q u = refl
        by_orders Greater b q u = refl
        by_orders Equal Less q u = refl
        by_orders Equal Greater q u = refl
        by_orders Equal Equal q u = sym is
            ∙ (λ i. kept_at (sym (addr_exact r x.router q) i) (sym (prefix_exact p x.prefix u) i))

  -- the cells that the changes are for are those that are kept, and each other is as it was
  value_placed : (xs : List Change) → AllByRecursion IsKept xs →
      (us : List (Addr × Table Cell)) (r : Addr) (p : Prefix) →
      value_at r p (with_changes xs us) ≡ cond (has_one r p xs) (kept_at r p) (value_at r p us)
  value_placed [] all us r p = refl
  value_placed (x ∷ xs) all us r p =
      value_placed xs all.1 (with_value x.router x.prefix x.outcome.cell us) r p
      ∙ ap (cond (has_one r p xs) (kept_at r p)) (one_placed x all.0 us r p)
      ∙ either_way (is_for r p x) (has_one r p xs) (kept_at r p) (value_at r p us)

  -- tables of the same routers as before
  abbrev HaveSameRouters : List (Addr × Table Cell) → Type 0
  HaveSameRouters us = (r : Addr) → is_some (entries.find addr_cmp r us) ≡ is_some (entries.find addr_cmp r ts)

  same_routers : (x : Change) → IsKept x → (us : List (Addr × Table Cell)) → HaveSameRouters us →
      HaveSameRouters (with_value x.router x.prefix x.outcome.cell us)
  same_routers x is us same r =
      let new = finite.insert (table_at x.router us) x.prefix x.outcome.cell in
      ap is_some (entries.find-put addr_cmp addr_total r x.router new us)
      ∙ elim (addr_cmp r x.router) as (λ o. addr_cmp r x.router ≡ o →
      is_some (cond (is_eq o) (Some new) (entries.find addr_cmp r us)) ≡ is_some (entries.find addr_cmp r ts)) [
        | Less ↦ λ q. same r
        | Equal ↦ λ q. sym (ap (λ k. is_some (entries.find addr_cmp k ts)) (addr_exact r x.router q)
            ∙ table_there x.prefix (entries.find addr_cmp x.router ts) (kept_there x is))
        | Greater ↦ λ q. same r
      ] refl

  routers_placed : (xs : List Change) → AllByRecursion IsKept xs → (us : List (Addr × Table Cell)) →
      HaveSameRouters us → HaveSameRouters (with_changes xs us)
  routers_placed [] all us same = same
  routers_placed (x ∷ xs) all us same = routers_placed xs all.1 (with_value x.router x.prefix x.outcome.cell us)
      (same_routers x all.0 us same)

-- by address still
pub by_address_with_changes : (xs : List Change) (ts : List (Addr × Table Cell)) →
    IsTrue (entries.is_sorted addr_cmp ts) → IsTrue (entries.is_sorted addr_cmp (with_changes xs ts))
by_address_with_changes [] ts sorted = sorted
by_address_with_changes (x ∷ xs) ts sorted =
    by_address_with_changes xs (with_value x.router x.prefix x.outcome.cell ts)
    (by_address_with_cell x.router x.prefix x.outcome.cell ts sorted)

-- EACH CELL THAT AN EDIT CAN CHANGE

module _ (holds : Choice) (c d : Configuration) (r : Addr) (p : Prefix) (h : Cell) (chosen : holds r p h ≡ true) where
  one_of_router : (cells : List (Prefix × Cell)) → entries.find prefix_cmp p cells ≡ Some h →
      has_one r p (router_changes holds c d r cells) ≡ true
  one_of_router [] at = absurd (none-some h at)
  one_of_router (e ∷ es) at = by (eq_by_cmp prefix_cmp p e.0) (holds r e.0 e.1) refl refl at (one_of_router es)
    where
      by : (here picked : Bool) → eq_by_cmp prefix_cmp p e.0 ≡ here → holds r e.0 e.1 ≡ picked →
          cond here (Some e.1) (entries.find prefix_cmp p es) ≡ Some h →
          (entries.find prefix_cmp p es ≡ Some h → has_one r p (router_changes holds c d r es) ≡ true) →
          has_one r p (router_changes holds c d r (e ∷ es)) ≡ true
      by true picked is holding found later =
          let key : p ≡ e.0 = prefix_exact p e.0 ((Equal-is (prefix_cmp p e.0)).0 is) in
          let value : e.1 ≡ h = same_Some e.1 h found in
          let held : holds r e.0 e.1 ≡ true = (λ i. holds r (sym key i) (value i)) ∙ chosen in
          ap (λ b. has_one r p (map (λ (x : Prefix × Cell). cell_change c d r x.0 x.1)
          (cond b (e ∷ filter (λ x. holds r x.0 x.1) es) (filter (λ x. holds r x.0 x.1) es)))) held
          ∙ (λ i. (is_eq (tied_itself addr_total r i) && is i) || has_one r p (router_changes holds c d r es))
      by false true is holding found later =
          ap (λ b. has_one r p (map (λ (x : Prefix × Cell). cell_change c d r x.0 x.1)
          (cond b (e ∷ filter (λ x. holds r x.0 x.1) es) (filter (λ x. holds r x.0 x.1) es)))) holding
          ∙ or_true (is_for r p (cell_change c d r e.0 e.1)) (has_one r p (router_changes holds c d r es)) (later found)
      by false false is holding found later =
          ap (λ b. has_one r p (map (λ (x : Prefix × Cell). cell_change c d r x.0 x.1)
          (cond b (e ∷ filter (λ x. holds r x.0 x.1) es) (filter (λ x. holds r x.0 x.1) es)))) holding
          ∙ later found

  one_of_table : (t : Table Cell) → finite.get t p ≡ Some h →
      has_one r p (router_changes holds c d r (finite.entries t)) ≡ true
  one_of_table t there = one_of_router (finite.entries t) (sym (finite.get-entries t p) ∙ there)

  one_of_network : (ts : List (Addr × Table Cell)) → value_at r p ts ≡ Some h →
      has_one r p (flat_map (λ t. router_changes holds c d t.0 (finite.entries t.1)) ts) ≡ true
  one_of_network [] there = absurd (none-some h (sym (finite.get-empty prefix_cmp p) ∙ there))
  one_of_network (t ∷ ts) there =
      let rest = flat_map (λ t. router_changes holds c d t.0 (finite.entries t.1)) ts in
      list_any-append (is_for r p) (router_changes holds c d t.0 (finite.entries t.1)) rest
      ∙ elim (addr_cmp r t.0) as (λ o. addr_cmp r t.0 ≡ o →
      finite.get (unwrap_or (cond (is_eq o) (Some t.1) (entries.find addr_cmp r ts)) finite.empty) p ≡ Some h →
      (has_one r p (router_changes holds c d t.0 (finite.entries t.1)) || has_one r p rest) ≡ true) [
        | Less ↦ λ q is. or_true (has_one r p (router_changes holds c d t.0 (finite.entries t.1))) (has_one r p rest)
            (one_of_network ts is)
        | Equal ↦ λ q is.
            ap (λ b. b || has_one r p rest) (ap (λ k. has_one r p (router_changes holds c d k (finite.entries t.1)))
            (sym (addr_exact r t.0 q)) ∙ one_of_table t.1 is)
        | Greater ↦ λ q is. or_true (has_one r p (router_changes holds c d t.0 (finite.entries t.1))) (has_one r p rest)
            (one_of_network ts is)
      ] refl there

  one_of_route : (o : Option Cell) → o ≡ Some h →
      has_one r p (router_changes holds c d r (option_to_list (option_map (λ x. (p, x)) o))) ≡ true
  one_of_route None at = absurd (none-some h at)
  one_of_route (Some x) at = one_of_router ((p, x) ∷ []) (ap (λ b. cond b (Some x) None) (ap is_eq (tied_prefix p))
      ∙ at)

  one_in : (s : Scope) (ts : List (Addr × Table Cell)) → value_at r p ts ≡ Some h → is_in s r p ≡ true →
      has_one r p (changes_where holds s c d ts) ≡ true
  one_in Network ts at is = one_of_network ts at
  one_in (Site a) ts at is =
      ap (λ k. has_one r p (router_changes holds c d k (finite.entries (table_at k ts)))) (sym (same_addr_true r a is))
      ∙ one_of_table (table_at r ts) at
  one_in (Route a q) ts at is =
      let parts = and_parts (same_addr r a) (same_prefix p q) is in
      let router = sym (same_addr_true r a parts.0) in
      let prefix = sym (same_prefix_true p q parts.1) in
      (λ i. has_one r p (router_changes holds c d (router i)
      (option_to_list (option_map (λ x. (prefix i, x)) (value_at (router i) (prefix i) ts)))))
      ∙ one_of_route (value_at r p ts) at

-- THE TABLES

module _ (holds : Choice) (s : Scope) (c d : Configuration) (ts : List (Addr × Table Cell))
    (sorted : IsTrue (entries.is_sorted addr_cmp ts)) where
  abbrev changes : List Change
  changes = changes_where holds s c d ts

  -- each change is of a cell that is there
  pub changes_there : AreThere changes ts
  changes_there = all_from (IsKept c d ts) (λ x. is_some (value_at x.router x.prefix ts) ≡ true)
      (kept_there c d ts) changes (changes_kept c d ts holds s sorted)

  module _ (outside : AreSettledOutside s c d ts) (settled : AreSettledBut holds c d ts) where
    value_by : (r : Addr) (p : Prefix) (o : Option Cell) → value_at r p ts ≡ o →
        cond (has_one r p changes) (option_map (kept_cell d r p) o) o ≡ option_map (kept_cell d r p) o
    value_by r p None at = no_matter (has_one r p changes) None
    value_by r p (Some h) at = by_choice (is_in s r p) (holds r p h) refl refl where
      as_was : kept_cell d r p h ≡ h → cond (has_one r p changes) (Some (kept_cell d r p h)) (Some h)
          ≡ Some (kept_cell d r p h)
      as_was same = ap (λ x. cond (has_one r p changes) (Some (kept_cell d r p h)) (Some x)) (sym same)
          ∙ no_matter (has_one r p changes) (Some (kept_cell d r p h))

      by_choice : (inside chosen : Bool) → is_in s r p ≡ inside → holds r p h ≡ chosen →
          cond (has_one r p changes) (Some (kept_cell d r p h)) (Some h) ≡ Some (kept_cell d r p h)
      by_choice true true is chosen = ap (λ b. cond b (Some (kept_cell d r p h)) (Some h))
          (one_in holds c d r p h chosen s ts at is)
      by_choice true false is off = as_was (settled r p h at off).cell
      by_choice false chosen out is = as_was (outside r p h at out).cell

    -- a cell that no change is for is as it was
    pub value_unchanged : (r : Addr) (p : Prefix) → has_one r p changes ≡ false →
        value_at r p (with_changes changes ts) ≡ value_at r p ts
    value_unchanged r p none =
        value_placed c d ts changes (changes_kept c d ts holds s sorted) ts r p
        ∙ ap (λ b. cond b (option_map (kept_cell d r p) (value_at r p ts)) (value_at r p ts)) none

    value_changed : (r : Addr) (p : Prefix) → value_at r p (with_changes changes ts) ≡ value_at r p (kept_tables d ts)
    value_changed r p = value_placed c d ts changes (changes_kept c d ts holds s sorted) ts r p
        ∙ value_by r p (value_at r p ts) refl ∙ sym (value_kept d r p ts)

    routers_changed : (r : Addr) → is_some (entries.find addr_cmp r (with_changes changes ts))
        ≡ is_some (entries.find addr_cmp r (kept_tables d ts))
    routers_changed r =
        routers_placed c d ts changes (changes_kept c d ts holds s sorted) ts (λ _. refl) r
        ∙ sym (ap is_some (find_revalued addr_cmp (kept_table d) addr_exact r ts)
        ∙ some_mapped (kept_table d r) (entries.find addr_cmp r ts))

    -- where all other cells are settled, the tables with the changes are those with each cell decided anew
    pub changes_placed : with_changes changes ts ≡ kept_tables d ts
    changes_placed =
        tables_same (with_changes changes ts) (kept_tables d ts) (by_address_with_changes changes ts sorted)
        (by_address_kept d ts sorted) routers_changed value_changed
