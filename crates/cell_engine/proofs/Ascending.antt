-- The changes of an edit come in order of router, then prefix, each cell once.
use Rattle.std.proofs.Common.{◌≡◌, Bool, true, false, cond, List, [], ◌∷◌, ◌++◌, map, filter, Option, Some, None, option_map, refl, ap, ◌∙◌}
use Rattle.std.proofs.lemmas.Bool.{and_parts}
use Rattle.std.specs.declared.cmp.Ordering.TheVariants.{Less}
use Rattle.std.specs.Ordering.{is_lt, ordering_then}
use Rattle.std.specs.Cmp.{tied_itself}
use Rattle.std.specs.Option.{option_to_list}
use Rattle.std.specs.List.{AllByRecursion, flat_map}
use Rattle.std.specs.List.Sorted.{IsStrictlySortedBy}
use Rattle.std.specs.FinMap as finite
use Rattle.std.specs.FinMap.Entries as entries
use Rattle.net_prefix.specs.declared.addr.Addr.{Addr}
use Rattle.net_prefix.specs.Address.{addr_cmp}
use Rattle.net_prefix.specs.Prefix.{Prefix, prefix_cmp}
use Rattle.net_prefix.specs.Orders.{addr_total}
use Rattle.prefix_table.specs.Tables.{Table}
use Rattle.net_conf.specs.Configuration.{Configuration}
use Rattle.net_conf.specs.declared.edit.Scope.{Scope}
use Rattle.net_conf.specs.declared.edit.Scope.TheVariants.{Network, Site, Route}
use Rattle.cell_engine.specs.RouterTables.{table_at, value_at}
use Rattle.cell_engine.specs.Cells.{Cell}
use Rattle.cell_engine.specs.Changes.{Change, Choice, cell_change, router_changes, changes_where}
use Rattle.cell_engine.specs.Decisions.{cell_cmp}
use Rattle.cell_engine.proofs.Chunks.{of_T}
use Rattle.cell_engine.proofs.Refreshed.{less_of}

-- the router and prefix of a change
abbrev pub cell_of : Change → Addr × Prefix
cell_of x = (x.router, x.prefix)

-- all of these come after the cell
abbrev AreAfter : Addr × Prefix → List Change → Type 0
AreAfter x ys = AllByRecursion (λ y. cell_cmp x y ≡ Less) (map cell_of ys)

abbrev AreInOrder : List Change → Type 0
AreInOrder xs = IsStrictlySortedBy cell_cmp (map cell_of xs)

-- LISTS

after_both : (x : Addr × Prefix) (xs ys : List Change) → AreAfter x xs → AreAfter x ys → AreAfter x (xs ++ ys)
after_both x [] ys all more = more
after_both x (z ∷ xs) ys all more = (all.0, after_both x xs ys all.1 more)

after_chosen : (f : Change → Bool) (x : Addr × Prefix) (ys : List Change) → AreAfter x ys → AreAfter x (filter f ys)
after_chosen f x [] all = tt
after_chosen f x (y ∷ ys) all = by (f y) (after_chosen f x ys all.1)
  where
    by : (b : Bool) → AreAfter x (filter f ys) → AreAfter x (cond b (y ∷ filter f ys) (filter f ys))
    by true rest = (all.0, rest)
    by false rest = rest

-- those that are chosen of what is in order are in order
pub chosen_in_order : (f : Change → Bool) (xs : List Change) → AreInOrder xs → AreInOrder (filter f xs)
unfolding IsStrictlySortedBy
chosen_in_order f [] sorted = tt
chosen_in_order f (x ∷ xs) sorted = by (f x) (chosen_in_order f xs sorted.1)
  where
    by : (b : Bool) → AreInOrder (filter f xs) → AreInOrder (cond b (x ∷ filter f xs) (filter f xs))
    by true rest = (after_chosen f (cell_of x) xs sorted.0, rest)
    by false rest = rest

in_order_both : (xs ys : List Change) → AreInOrder xs → AreInOrder ys →
    AllByRecursion (λ x. AreAfter (cell_of x) ys) xs → AreInOrder (xs ++ ys)
unfolding IsStrictlySortedBy
in_order_both [] ys sorted more all = more
in_order_both (x ∷ xs) ys sorted more all = (
  after_both (cell_of x) xs ys sorted.0 all.0,
  in_order_both xs ys sorted.1 more all.1,
)

-- CELLS

later_prefix : (r : Addr) (p q : Prefix) → prefix_cmp p q ≡ Less → cell_cmp (r, p) (r, q) ≡ Less
later_prefix r p q less = ap (λ o. ordering_then o (prefix_cmp p q)) (tied_itself addr_total r) ∙ less

later_router : (r s : Addr) (p q : Prefix) → addr_cmp r s ≡ Less → cell_cmp (r, p) (s, q) ≡ Less
later_router r s p q less = ap (λ o. ordering_then o (prefix_cmp p q)) less

module _ (holds : Choice) (c d : Configuration) where
  module _ (r : Addr) where
    after_prefix : (p : Prefix) (cells : List (Prefix × Cell)) → entries.below_all prefix_cmp p cells ≡ true →
        AreAfter (r, p) (router_changes holds c d r cells)
    after_prefix p [] below = tt
    after_prefix p (e ∷ es) below =
        let parts = and_parts (is_lt (prefix_cmp p e.0)) (entries.below_all prefix_cmp p es) below in
        by (holds r e.0 e.1) parts.0 (after_prefix p es parts.1)
      where
        by : (b : Bool) → is_lt (prefix_cmp p e.0) ≡ true → AreAfter (r, p) (router_changes holds c d r es) →
            AreAfter (r, p) (map (λ (x : Prefix × Cell). cell_change c d r x.0 x.1)
            (cond b (e ∷ filter (λ x. holds r x.0 x.1) es) (filter (λ x. holds r x.0 x.1) es)))
        by true less rest = (later_prefix r p e.0 (less_of (prefix_cmp p e.0) less), rest)
        by false less rest = rest

    router_in_order : (cells : List (Prefix × Cell)) → entries.is_sorted prefix_cmp cells ≡ true →
        AreInOrder (router_changes holds c d r cells)
    unfolding IsStrictlySortedBy
    router_in_order [] sorted = tt
    router_in_order (e ∷ es) sorted =
        let parts = and_parts (entries.below_all prefix_cmp e.0 es) (entries.is_sorted prefix_cmp es) sorted in
        by (holds r e.0 e.1) (after_prefix e.0 es parts.0) (router_in_order es parts.1)
      where
        by : (b : Bool) → AreAfter (r, e.0) (router_changes holds c d r es) →
            AreInOrder (router_changes holds c d r es) →
            AreInOrder (map (λ (x : Prefix × Cell). cell_change c d r x.0 x.1)
            (cond b (e ∷ filter (λ x. holds r x.0 x.1) es) (filter (λ x. holds r x.0 x.1) es)))
        by true after rest = (after, rest)
        by false after rest = rest

    -- all of a router come after the cells of one before it
    after_router : (s : Addr) (p : Prefix) (cells : List (Prefix × Cell)) → addr_cmp s r ≡ Less →
        AreAfter (s, p) (router_changes holds c d r cells)
    after_router s p [] less = tt
    after_router s p (e ∷ es) less = by (holds r e.0 e.1) (after_router s p es less)
      where
        by : (b : Bool) → AreAfter (s, p) (router_changes holds c d r es) →
            AreAfter (s, p) (map (λ (x : Prefix × Cell). cell_change c d r x.0 x.1)
            (cond b (e ∷ filter (λ x. holds r x.0 x.1) es) (filter (λ x. holds r x.0 x.1) es)))
        by true rest = (later_router s r p e.0 less, rest)
        by false rest = rest

    -- what holds of each cell of a router holds of its changes
    of_router : (P : Addr × Prefix → Type 0) → ((p : Prefix) → P (r, p)) → (cells : List (Prefix × Cell)) →
        AllByRecursion (λ x. P (cell_of x)) (router_changes holds c d r cells)
    of_router P all [] = tt
    of_router P all (e ∷ es) = by (holds r e.0 e.1) (of_router P all es)
      where
        by : (b : Bool) → AllByRecursion (λ x. P (cell_of x)) (router_changes holds c d r es) →
            AllByRecursion (λ x. P (cell_of x))
            (map (λ (x : Prefix × Cell). cell_change c d r x.0 x.1)
            (cond b (e ∷ filter (λ x. holds r x.0 x.1) es) (filter (λ x. holds r x.0 x.1) es)))
        by true rest = (all e.0, rest)
        by false rest = rest

  abbrev all_changes : List (Addr × Table Cell) → List Change
  all_changes ts = flat_map (λ t. router_changes holds c d t.0 (finite.entries t.1)) ts

  after_tables : (r : Addr) (p : Prefix) (ts : List (Addr × Table Cell)) → entries.below_all addr_cmp r ts ≡ true →
      AreAfter (r, p) (all_changes ts)
  after_tables r p [] below = tt
  after_tables r p (t ∷ ts) below =
      let parts = and_parts (is_lt (addr_cmp r t.0)) (entries.below_all addr_cmp r ts) below in
      after_both (r, p) (router_changes holds c d t.0 (finite.entries t.1)) (all_changes ts)
      (after_router t.0 r p (finite.entries t.1) (less_of (addr_cmp r t.0) parts.0))
      (after_tables r p ts parts.1)

  tables_in_order : (ts : List (Addr × Table Cell)) → entries.is_sorted addr_cmp ts ≡ true → AreInOrder (all_changes ts)
  unfolding IsStrictlySortedBy
  tables_in_order [] sorted = tt
  tables_in_order (t ∷ ts) sorted =
      let parts = and_parts (entries.below_all addr_cmp t.0 ts) (entries.is_sorted addr_cmp ts) sorted in
      in_order_both (router_changes holds c d t.0 (finite.entries t.1)) (all_changes ts)
      (router_in_order t.0 (finite.entries t.1) (of_T _ (finite.entries_sorted t.1)))
      (tables_in_order ts parts.1)
      (of_router t.0 (λ x. AreAfter x (all_changes ts)) (λ p. after_tables t.0 p ts parts.0) (finite.entries t.1))

  pub changes_in_order : (s : Scope) (ts : List (Addr × Table Cell)) → entries.is_sorted addr_cmp ts ≡ true →
      IsStrictlySortedBy cell_cmp (map cell_of (changes_where holds s c d ts))
  changes_in_order Network ts sorted = tables_in_order ts sorted
  changes_in_order (Site a) ts sorted = router_in_order a (finite.entries (table_at a ts))
      (of_T _ (finite.entries_sorted (table_at a ts)))
  changes_in_order (Route a p) ts sorted = by (value_at a p ts)
    where
      by : (o : Option Cell) → AreInOrder (router_changes holds c d a (option_to_list (option_map (λ h. (p, h)) o)))
      by None = router_in_order a [] refl
      by (Some h) = router_in_order a ((p, h) ∷ []) refl
