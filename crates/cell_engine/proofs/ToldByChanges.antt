-- What the routers send for the cells that an edit changes is all that they send for it.
use Rattle.std.proofs.Common.{◌≡◌, Bool, true, false, cond, ◌&&◌, List, [], ◌∷◌, ◌++◌, map, filter, Option, Some, None, option_map, unwrap_or, IsTrue, if◌then◌else◌, refl, sym, ap, ◌∙◌}
use Rattle.std.proofs.lemmas.Bool.{and_parts, and_right}
use Rattle.std.proofs.lemmas.List.{append-nil, append_assoc}
use Rattle.std.specs.Ordering.{is_lt, is_eq, eq_by_cmp}
use Rattle.std.specs.Cmp.{Equal-is, eq_by_cmp_equiv}
use Rattle.std.specs.Option.{option_to_list}
use Rattle.std.specs.List.{AllByRecursion}
use Rattle.std.specs.FinMap as finite
use Rattle.std.specs.FinMap.Entries as entries
use Rattle.net_prefix.specs.declared.addr.Addr.{Addr}
use Rattle.net_prefix.specs.Address.{same_addr, addr_cmp}
use Rattle.net_prefix.specs.Prefix.{Prefix, same_prefix, prefix_cmp}
use Rattle.net_prefix.specs.Orders.{addr_total, prefix_total, prefix_exact}
use Rattle.prefix_table.specs.Tables.{Table}
use Rattle.session_queue.specs.declared.message.Message.{Message}
use Rattle.net_conf.specs.Configuration.{Configuration}
use Rattle.cell_engine.specs.RouterTables.{table_at, value_at}
use Rattle.cell_engine.specs.Cells.{Cell}
use Rattle.net_conf.specs.declared.edit.Scope.{Scope}
use Rattle.net_conf.specs.declared.edit.Scope.TheVariants.{Network, Site, Route}
use Rattle.cell_engine.specs.Sending.{told, told_from}
use Rattle.cell_engine.specs.Editing.{cell_sends, router_sends, all_sends, told_by_all}
use Rattle.cell_engine.specs.Changes.{Change, Choice, cell_change, router_changes, changes_where, sends_for}
use Rattle.cell_engine.specs.Settled.{is_in, AreSettledOutside, AreSettledBut}
use Rattle.cell_engine.proofs.Chunks.{flat, chunk, of_T}
use Rattle.cell_engine.proofs.Offers.{same_addr_true, prefix_tied, nothing_if}
use Rattle.cell_engine.proofs.Refreshed.{less_of, all_from, found_each, told_append, told_at}

-- WHERE ONE KEY ALONE GIVES ANYTHING

-- a prefix before all others is none of them
none_past : {V : Type 0} (p : Prefix) (es : List (Prefix × V)) → entries.below_all prefix_cmp p es ≡ true →
    entries.find prefix_cmp p es ≡ None
none_past p [] h = refl
none_past p (e ∷ es) h =
    let parts = and_parts (is_lt (prefix_cmp p e.0)) (entries.below_all prefix_cmp p es) h in
    ap (λ r. cond (is_eq r) (Some e.1) (entries.find prefix_cmp p es)) (less_of (prefix_cmp p e.0) parts.0)
    ∙ none_past p es parts.1

tied : (p q : Prefix) → eq_by_cmp prefix_cmp p q ≡ true → p ≡ q
tied p q h = prefix_exact p q ((Equal-is (prefix_cmp p q)).0 h)

apart : (p q : Prefix) → eq_by_cmp prefix_cmp p q ≡ false → same_prefix q p ≡ false
apart p q h = prefix_tied q p ∙ (eq_by_cmp_equiv prefix_total).symm q p ∙ h

module _ {V A : Type 0} (g : Prefix → V → List A) (p : Prefix) where
  -- the entry gives nothing, unless it is the prefix's
  abbrev Silent : Prefix × V → Type 0
  Silent e = same_prefix e.0 p ≡ false → g e.0 e.1 ≡ []

  alone_by : (here : Bool) (e : Prefix × V) (es : List (Prefix × V)) → eq_by_cmp prefix_cmp p e.0 ≡ here →
      entries.below_all prefix_cmp e.0 es ≡ true → Silent e → flat g es ≡ chunk g p (entries.find prefix_cmp p es) →
      flat g (e ∷ es) ≡ chunk g p (cond here (Some e.1) (entries.find prefix_cmp p es))
  alone_by true e es is below silent rest =
      let at : p ≡ e.0 = tied p e.0 is in
      let none : entries.find prefix_cmp p es ≡ None =
      none_past p es (ap (λ q. entries.below_all prefix_cmp q es) at ∙ below) in
      ap (λ l. g e.0 e.1 ++ l) (rest ∙ ap (chunk g p) none) ∙ append-nil (g e.0 e.1) ∙ ap (λ q. g q e.1) (sym at)
  alone_by false e es is below silent rest = ap (λ l. l ++ flat g es) (silent (apart p e.0 is)) ∙ rest

  -- the prefix's entry alone gives anything
  alone : (es : List (Prefix × V)) → entries.is_sorted prefix_cmp es ≡ true → AllByRecursion Silent es →
      flat g es ≡ chunk g p (entries.find prefix_cmp p es)
  alone [] h all = refl
  alone (e ∷ es) h all =
      let parts = and_parts (entries.below_all prefix_cmp e.0 es) (entries.is_sorted prefix_cmp es) h in
      alone_by (eq_by_cmp prefix_cmp p e.0) e es refl parts.0 all.0 (alone es parts.1 all.1)

module _ (c d : Configuration) (f t : Addr) where
  -- what one is told for the changes
  abbrev told_for : List Change → List Message
  told_for xs = told_by_all (sends_for xs) f t

  told_for_append : (xs ys : List Change) → told_for (xs ++ ys) ≡ told_for xs ++ told_for ys
  told_for_append [] ys = refl
  told_for_append (x ∷ xs) ys =
      let first = told_from x.router x.outcome.sends f t in
      ap (λ l. first ++ l) (told_for_append xs ys) ∙ sym (append_assoc first (told_for xs) (told_for ys))

  told_if_append : (here : Bool) (xs ys : List (Addr × Message)) →
      (if here then told t (xs ++ ys) else []) ≡ (if here then told t xs else []) ++ (if here then told t ys else [])
  told_if_append true xs ys = told_append t xs ys
  told_if_append false xs ys = refl

  module _ (holds : Choice) where
    -- nothing is sent for a cell that is not chosen
    abbrev IsSilent : Addr → Prefix × Cell → Type 0
    IsSilent r e = holds r e.0 e.1 ≡ false → cell_sends c d r e.0 e.1 ≡ []

    -- for those of a router, with this cell's, if it is chosen
    abbrev told_if : Addr → Prefix × Cell → List (Prefix × Cell) → Bool → List Message
    told_if r e es chosen = told_for
        (map (λ (x : Prefix × Cell). cell_change c d r x.0 x.1)
        (cond chosen (e ∷ filter (λ x. holds r x.0 x.1) es) (filter (λ x. holds r x.0 x.1) es)))

    -- for the changes of a router's cells one is told what it sends for all
    told_for_router : (r : Addr) (cells : List (Prefix × Cell)) → AllByRecursion (IsSilent r) cells →
        told_for (router_changes holds c d r cells) ≡ told_from r (router_sends c d r cells) f t
    told_for_router r [] all = sym (nothing_if (same_addr f r))
    told_for_router r (e ∷ es) all = by (holds r e.0 e.1) refl (told_for_router r es all.1)
      where
        by : (chosen : Bool) → holds r e.0 e.1 ≡ chosen →
            told_for (router_changes holds c d r es) ≡ told_from r (router_sends c d r es) f t →
            (told_if r e es) (holds r e.0 e.1) ≡ told_from r (cell_sends c d r e.0 e.1 ++ router_sends c d r es) f t
        by true is rest =
            ap (told_if r e es) is
            ∙ ap (λ l. told_from r (cell_sends c d r e.0 e.1) f t ++ l) rest
            ∙ sym (told_if_append (same_addr f r) (cell_sends c d r e.0 e.1) (router_sends c d r es))
        by false is rest =
            ap (told_if r e es) is
            ∙ rest
            ∙ ap (λ l. told_from r (l ++ router_sends c d r es) f t) (sym (all.0 is))

    -- and for those of all routers what all send
    told_for_all : (ts : List (Addr × Table Cell)) →
        AllByRecursion (λ x. AllByRecursion (IsSilent x.0) (finite.entries x.1)) ts →
        told_for (changes_where holds Network c d ts) ≡ told_by_all (all_sends c d ts) f t
    told_for_all [] all = refl
    told_for_all (x ∷ xs) all =
        told_for_append (router_changes holds c d x.0 (finite.entries x.1)) (changes_where holds Network c d xs)
        ∙ (λ i. told_for_router x.0 (finite.entries x.1) all.0 i ++ told_for_all xs all.1 i)

    abbrev changes_of_cell : Addr → Prefix → Option Cell → List Change
    changes_of_cell r p x = router_changes holds c d r (option_to_list (option_map (λ h. (p, h)) x))

    -- for the change of one cell, if there is one, what its router sends for that
    told_for_cell : (r : Addr) (p : Prefix) (x : Option Cell) → ((h : Cell) → x ≡ Some h → IsSilent r (p, h)) →
        told_for (changes_of_cell r p x) ≡ told_from r (chunk (cell_sends c d r) p x) f t
    told_for_cell r p None silent = sym (nothing_if (same_addr f r))
    told_for_cell r p (Some h) silent = told_for_router r ((p, h) ∷ []) (silent h refl, tt)
        ∙ ap (λ l. told_from r l f t) (append-nil (cell_sends c d r p h))

module _ (s : Scope) (c d : Configuration) (ts : List (Addr × Table Cell))
    (sorted : IsTrue (entries.is_sorted addr_cmp ts)) (settled : AreSettledOutside s c d ts) where
  abbrev cells_of : Addr → List (Prefix × Cell)
  cells_of r = finite.entries (table_at r ts)

  cells_sorted : (r : Addr) → entries.is_sorted prefix_cmp (cells_of r) ≡ true
  cells_sorted r = of_T _ (finite.entries_sorted (table_at r ts))

  -- each cell is the value of its router and prefix
  cells_found : (r : Addr) → AllByRecursion (λ x. value_at r x.0 ts ≡ Some x.1) (cells_of r)
  cells_found r =
      all_from (λ x. entries.find prefix_cmp x.0 (cells_of r) ≡ Some x.1) (λ x. value_at r x.0 ts ≡ Some x.1)
      (λ x found. finite.get-entries (table_at r ts) x.0 ∙ found) (cells_of r)
      (found_each prefix_total (cells_of r) (cells_sorted r))

  -- a router none of whose cells can change sends nothing
  silent_router : (r : Addr) → ((p : Prefix) → is_in s r p ≡ false) → (cells : List (Prefix × Cell)) →
      AllByRecursion (λ x. value_at r x.0 ts ≡ Some x.1) cells → router_sends c d r cells ≡ []
  silent_router r out [] found = refl
  silent_router r out (x ∷ xs) found = λ i. (settled r x.0 x.1 found.0 (out x.0)).silent i
      ++ silent_router r out xs found.1 i

  module _ (a : Addr) (out : (r : Addr) (p : Prefix) → same_addr r a ≡ false → is_in s r p ≡ false) (f t : Addr) where
    told_if_one : (here : Bool) → same_addr f a ≡ here → (if here then told t (router_sends c d a (cells_of a)) else [])
        ≡ told t (router_sends c d f (cells_of f))
    told_if_one true is = ap (λ r. told t (router_sends c d r (cells_of r))) (sym (same_addr_true f a is))
    told_if_one false is = ap (told t) (sym (silent_router f (λ p. out f p is) (cells_of f) (cells_found f)))

    -- where one router's cells alone can change, it alone tells anything
    told_by_one : told_from a (router_sends c d a (cells_of a)) f t ≡ told_by_all (all_sends c d ts) f t
    told_by_one = told_if_one (same_addr f a) refl ∙ sym (told_at c d t f ts sorted)

  module _ (a : Addr) (p : Prefix) (out : (q : Prefix) → same_prefix q p ≡ false → is_in s a q ≡ false) where
    -- where one of its cells alone can change, it sends something for that cell alone
    sent_for_one : router_sends c d a (cells_of a) ≡ chunk (cell_sends c d a) p (value_at a p ts)
    sent_for_one =
        let silent = all_from (λ x. value_at a x.0 ts ≡ Some x.1) (λ x. same_prefix x.0 p ≡ false →
        cell_sends c d a x.0 x.1 ≡ []) (λ x found other. (settled a x.0 x.1 found (out x.0 other)).silent)
        (cells_of a) (cells_found a) in
        alone (cell_sends c d a) p (cells_of a) (cells_sorted a) silent
        ∙ ap (chunk (cell_sends c d a) p) (sym (finite.get-entries (table_at a ts) p))

module _ (holds : Choice) (s : Scope) (c d : Configuration) (ts : List (Addr × Table Cell))
    (sorted : IsTrue (entries.is_sorted addr_cmp ts)) (outside : AreSettledOutside s c d ts)
    (settled : AreSettledBut holds c d ts) (f t : Addr) where
  silent_cells : (r : Addr) (table : Table Cell) → table_at r ts ≡ table →
      AllByRecursion (IsSilent c d f t holds r) (finite.entries table)
  silent_cells r table at =
      all_from (λ x. entries.find prefix_cmp x.0 (finite.entries table) ≡ Some x.1) (IsSilent c d f t holds r)
      (λ x found off. (settled r x.0 x.1 (ap (λ y. finite.get y x.0) at ∙ finite.get-entries table x.0
      ∙ found) off).silent)
      (finite.entries table) (found_each prefix_total (finite.entries table) (of_T _ (finite.entries_sorted table)))

  silent_tables : AllByRecursion (λ x. AllByRecursion (IsSilent c d f t holds x.0) (finite.entries x.1)) ts
  silent_tables =
      all_from (λ x. entries.find addr_cmp x.0 ts ≡ Some x.1)
      (λ x. AllByRecursion (IsSilent c d f t holds x.0) (finite.entries x.1))
      (λ x found. silent_cells x.0 x.1 (ap (λ o. unwrap_or o finite.empty) found))
      ts (found_each addr_total ts sorted)

-- for the changes each peer is told what it is told by all
pub told_by_changes : (holds : Choice) (s : Scope) (c d : Configuration) (ts : List (Addr × Table Cell)) →
    IsTrue (entries.is_sorted addr_cmp ts) → AreSettledOutside s c d ts → AreSettledBut holds c d ts → (f t : Addr) →
    told_by_all (sends_for (changes_where holds s c d ts)) f t ≡ told_by_all (all_sends c d ts) f t
told_by_changes holds Network c d ts sorted outside settled f t =
    told_for_all c d f t holds ts (silent_tables holds Network c d ts sorted outside settled f t)
told_by_changes holds (Site a) c d ts sorted outside settled f t =
    told_for_router c d f t holds a (finite.entries (table_at a ts))
    (silent_cells holds (Site a) c d ts sorted outside settled f t a (table_at a ts) refl)
    ∙ told_by_one (Site a) c d ts sorted outside a (λ r p other. other) f t
told_by_changes holds (Route a p) c d ts sorted outside settled f t =
    let out_of_router : (r : Addr) (q : Prefix) → same_addr r a ≡ false → is_in (Route a p) r q ≡ false =
    λ r q other. ap (λ b. b && same_prefix q p) other in
    let out_of_cell : (q : Prefix) → same_prefix q p ≡ false → is_in (Route a p) a q ≡ false =
    λ q other. and_right (same_addr a a) (same_prefix q p) other in
    told_for_cell c d f t holds a p (value_at a p ts) (λ h at off. (settled a p h at off).silent)
    ∙ ap (λ sends. told_from a sends f t) (sym (sent_for_one (Route a p) c d ts sorted outside a p out_of_cell))
    ∙ told_by_one (Route a p) c d ts sorted outside a out_of_router f t
