-- A walk by the first entry past the last one: what is left of it.
use Rattle.std.proofs.Common.{◌≡◌, Bool, true, false, cond, List, [], ◌∷◌, filter, find, Option, Some, None, unwrap_or, refl, sym, ap, subst, ◌∙◌}
use Rattle.std.specs.List.{AllByRecursion}
use Rattle.std.specs.List.Sorted.{IsStrictlySortedBy}
use Rattle.std.specs.Map.{keys_of}
use Rattle.std.specs.declared.cmp.Ordering.{Ordering}
use Rattle.std.specs.declared.cmp.Ordering.TheVariants.{Less}
use Rattle.std.specs.Ordering.{is_lt, ordering_reverse}
use Rattle.std.specs.Cmp.{IsTotalOrder, tied_itself}
use Rattle.std.specs.FinMap as finite
use Rattle.std.specs.FinMap.Entries.{find as find_entry}
use Rattle.net_prefix.specs.declared.addr.Addr.{Addr}
use Rattle.net_prefix.specs.Address.{addr_cmp}
use Rattle.net_prefix.specs.Prefix.{Prefix}
use Rattle.net_prefix.specs.Orders.{addr_total, prefix_total}
use Rattle.path_attr.specs.declared.attr.Attr.{Attr}
use Rattle.prefix_table.specs.Tables.{Table, first_after}
use Rattle.prefix_table.proofs.Entries.{T_of, less_of}
use Rattle.cell_engine.specs.RouterTables.{table_at}
use Rattle.cell_engine.specs.Cells.{Cell}
use Rattle.cell_engine.specs.Senders.{AreInOrder, first_past}
use Rattle.cell_engine.specs.Reporting.{cells_of, cells_after, received_past}
use Rattle.cell_engine.proofs.Flat.{no_cells}
use Rattle.cell_engine.proofs.Listed.{keys_sorted}

-- ENTRIES IN ORDER

-- whether the second key comes after the first, if there is a first
abbrev is_beyond : {K : Type 0} → (K → K → Ordering) → Option K → K → Bool
is_beyond R None k = true
is_beyond R (Some j) k = is_lt (R j k)

still_beyond : {K : Type 0} {R : K → K → Ordering} → IsTotalOrder R → (past : Option K) (j k : K) →
    is_beyond R past j ≡ true → R j k ≡ Less → is_beyond R past k ≡ true
still_beyond o None j k h less = refl
still_beyond o (Some i) j k h less = ap is_lt (o.trans i j k (less_of _ (T_of _ h)) less)

module _ {K X : Type 0} {R : K → K → Ordering} (o : IsTotalOrder R) where
  abbrev left : Option K → List (K × X) → List (K × X)
  left past es = filter (λ e. is_beyond R past e.0) es

  abbrev next : Option K → List (K × X) → Option (K × X)
  next past es = find (λ e. is_beyond R past e.0) es

  all_left : (past : Option K) (k : K) (es : List (K × X)) → ((j : K) → R k j ≡ Less → is_beyond R past j ≡ true) →
      AllByRecursion (λ j. R k j ≡ Less) (keys_of es) → left past es ≡ es
  all_left past k [] beyond h = refl
  all_left past k (e ∷ es) beyond h = ap (λ b. cond b (e ∷ left past es) (left past es)) (beyond e.0 h.0)
      ∙ ap (λ l. e ∷ l) (all_left past k es beyond h.1)

  above : (past : Option K) (k : K) (es : List (K × X)) (f : K × X) → AllByRecursion (λ j. R k j ≡ Less) (keys_of es) →
      next past es ≡ Some f → R k f.0 ≡ Less
  above past k [] f h is = cc
  above past k (e ∷ es) f h is =
      elim (is_beyond R past e.0) as (λ b. cond b (Some e) (next past es) ≡ Some f → R k f.0 ≡ Less) [
        | true ↦ λ here. subst (λ j. R k j ≡ Less) (ap (λ x. (unwrap_or x e).0) here) h.0
        | false ↦ λ later. above past k es f h.1 later
      ] is

  -- the walk comes to the next entry
  left_step : (past : Option K) (es : List (K × X)) (f : K × X) → IsStrictlySortedBy R (keys_of es) →
      next past es ≡ Some f → left past es ≡ f ∷ left (Some f.0) es
  unfolding IsStrictlySortedBy
  left_step past [] f h is = cc
  left_step past (e ∷ es) f h is =
      elim (is_beyond R past e.0) as (λ b. is_beyond R past e.0 ≡ b → cond b (Some e) (next past es) ≡ Some f →
      cond b (e ∷ left past es) (left past es) ≡ f ∷ left (Some f.0) (e ∷ es)) [
        | true ↦ λ beyond here.
            let same : e ≡ f = ap (λ x. unwrap_or x e) here in
            ap (λ l. e ∷ l) (all_left past e.0 es (λ j less. still_beyond o past e.0 j beyond less) h.0)
            ∙ ap (λ l. e ∷ l) (sym (all_left (Some e.0) e.0 es (λ j less. ap is_lt less) h.0))
            ∙ ap (λ b. e ∷ cond b (e ∷ left (Some e.0) es) (left (Some e.0) es)) (sym (ap is_lt (tied_itself o e.0)))
            ∙ ap (λ x. x ∷ left (Some x.0) (e ∷ es)) same
        | false ↦ λ passed later.
            left_step past es f h.1 later
            ∙ ap (λ b. f ∷ cond b (e ∷ left (Some f.0) es) (left (Some f.0) es))
            (sym (ap is_lt (o.antisymm f.0 e.0 ∙ ap ordering_reverse (above past e.0 es f h.0 later))))
      ] refl is

  left_end : (past : Option K) (es : List (K × X)) → next past es ≡ None → left past es ≡ []
  left_end past [] is = refl
  left_end past (e ∷ es) is =
      elim (is_beyond R past e.0) as (λ b. cond b (Some e) (next past es) ≡ None →
      cond b (e ∷ left past es) (left past es) ≡ []) [
        | true ↦ λ here. cc
        | false ↦ λ later. left_end past es later
      ] is

  left_all : (es : List (K × X)) → left None es ≡ es
  left_all [] = refl
  left_all (e ∷ es) = ap (λ l. e ∷ l) (left_all es)

-- THE CELLS OF A ROUTER

module _ (r : Addr) (ts : List (Addr × Table Cell)) where
  -- there are none where the router has no table
  pub cells_without_table : find_entry addr_cmp r ts ≡ None → cells_of r ts ≡ []
  cells_without_table none = ap (λ t. finite.entries (unwrap_or t finite.empty)) none ∙ no_cells

  -- a walk begins with all of them, comes to the next, and ends where there is no next
  pub cells_begin : cells_after r ts None ≡ cells_of r ts
  cells_begin = left_all prefix_total (cells_of r ts)

  pub cells_step : (after : Option Prefix) (f : Prefix × Cell) → first_after (table_at r ts) after ≡ Some f →
      cells_after r ts after ≡ f ∷ cells_after r ts (Some f.0)
  cells_step after f is = left_step prefix_total after (cells_of r ts) f
      (keys_sorted prefix_total (cells_of r ts) (finite.entries_sorted (table_at r ts))) is

  pub cells_end : (after : Option Prefix) → first_after (table_at r ts) after ≡ None → cells_after r ts after ≡ []
  cells_end after is = left_end prefix_total after (cells_of r ts) is

-- THE SENDERS OF A CELL

module _ (routes : List (Addr × Attr)) where
  -- a walk begins with all of them, comes to the next, and ends where there is no next
  pub senders_begin : received_past routes None ≡ routes
  senders_begin = left_all addr_total routes

  pub senders_step : (past : Option Addr) (f : Addr × Attr) → AreInOrder routes → first_past routes past ≡ Some f →
      received_past routes past ≡ f ∷ received_past routes (Some f.0)
  senders_step past f sorted is = left_step addr_total past routes f sorted is

  pub senders_end : (past : Option Addr) → first_past routes past ≡ None → received_past routes past ≡ []
  senders_end past is = left_end addr_total past routes is
