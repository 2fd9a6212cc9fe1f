-- A walk by the first entry past the last one comes by each entry once, in order.
use Rattle.std.proofs.Common.{◌≡◌, Bool, true, false, cond, ◌&&◌, T, List, [], ◌∷◌, filter, Option, Some, None, option_map, unwrap_or, refl, sym, ap, subst, ◌∙◌}
use Rattle.std.specs.List.{find}
use Rattle.std.specs.declared.cmp.Ordering.{Ordering}
use Rattle.std.specs.declared.cmp.Ordering.TheVariants.{Less, Equal, Greater}
use Rattle.std.specs.Ordering.{is_lt, is_eq, ordering_reverse}
use Rattle.std.specs.Cmp.{IsTotalOrder, tied_itself}
use Rattle.std.specs.FinMap as finite
use Rattle.std.specs.FinMap.Entries as entries
use Rattle.net_prefix.specs.declared.addr.Addr.{Addr}
use Rattle.net_prefix.specs.Address.{addr_cmp}
use Rattle.net_prefix.specs.Orders.{addr_total}
use Rattle.prefix_table.specs.Tables.{Table}
use Rattle.cell_engine.specs.RouterTables.{table_at, is_past, next_of}

less_of : (o : Ordering) → T (is_lt o) → o ≡ Less
less_of Less e = refl
less_of Equal e = absurd e
less_of Greater e = absurd e

first_of : (a b : Bool) → T (a && b) → T a
first_of true b p = tt
first_of false b p = p

second_of : (a b : Bool) → T (a && b) → T b
second_of true b p = p
second_of false b p = absurd p

T_of : (b : Bool) → b ≡ true → T b
T_of b is = subst T (sym is) tt

-- WALKS

module _ {K : Type 0} {R : K → K → Ordering} (total : IsTotalOrder R) (past : Option K → K →
    Bool) (from_none : (k : K) → past None k ≡ true) (from_some : (a k : K) → past (Some a) k ≡ is_lt (R a k)) where
  -- whether all that comes after y comes after o
  abbrev Reaches : Option K → K → Type 0
  Reaches o y = (z : K) → R y z ≡ Less → past o z ≡ true

  reaches : (o : Option K) (y : K) → past o y ≡ true → Reaches o y
  reaches None y h z l = from_none z
  reaches (Some a) y h z l = from_some a z
      ∙ ap is_lt (total.trans a y z (less_of _ (T_of _ (sym (from_some a y) ∙ h))) l)

  not_past : (y z : K) → R y z ≡ Less → past (Some z) y ≡ false
  not_past y z l = from_some z y ∙ ap is_lt (total.antisymm z y ∙ ap ordering_reverse l)

  not_itself : (y : K) → past (Some y) y ≡ false
  not_itself y = from_some y y ∙ ap is_lt (tied_itself total y)

  module _ {X : Type 0} where
    abbrev rest : Option K → List (K × X) → List (K × X)
    rest o es = filter (λ e. past o e.0) es

    all_past : (o : Option K) (y : K) (es : List (K × X)) → Reaches o y → T (entries.below_all R y es) → rest o es ≡ es
    all_past o y [] r h = refl
    all_past o y (e ∷ es) r h =
        ap (λ b. cond b (e ∷ rest o es) (rest o es)) (r e.0 (less_of _ (first_of _ _ h)))
        ∙ ap (λ l. e ∷ l) (all_past o y es r (second_of (is_lt (R y e.0)) (entries.below_all R y es) h))

    found_above : (p : K × X → Bool) (y : K) (es : List (K × X)) (f : K × X) → T (entries.below_all R y es) →
        find p es ≡ Some f → R y f.0 ≡ Less
    found_above p y [] f h is = cc
    found_above p y (e ∷ es) f h is =
        elim (p e) as (λ b. cond b (Some e) (find p es) ≡ Some f → R y f.0 ≡ Less) [
          | true ↦ λ k. subst (λ x. R y x ≡ Less) (ap (λ o. (unwrap_or o e).0) k) (less_of _ (first_of _ _ h))
          | false ↦ λ k. found_above p y es f (second_of (is_lt (R y e.0)) (entries.below_all R y es) h) k
        ] is

    pub walk_step : (o : Option K) (es : List (K × X)) (f : K × X) → T (entries.is_sorted R es) →
        find (λ e. past o e.0) es ≡ Some f → rest o es ≡ f ∷ rest (Some f.0) es
    walk_step o [] f h is = cc
    walk_step o (e ∷ es) f h is =
        elim (past o e.0) as (λ b. past o e.0 ≡ b → cond b (Some e) (find (λ e. past o e.0) es) ≡ Some f →
        cond b (e ∷ rest o es) (rest o es) ≡ f ∷ rest (Some f.0) (e ∷ es)) [
          | true ↦ λ p k.
              let same : e ≡ f = ap (λ o. unwrap_or o e) k in
              let below = first_of (entries.below_all R e.0 es) (entries.is_sorted R es) h in
              ap (λ l. e ∷ l) (all_past o e.0 es (reaches o e.0 p) below)
              ∙ ap (λ l. e ∷ l) (sym (all_past (Some e.0) e.0 es (λ z l. from_some e.0 z ∙ ap is_lt l) below))
              ∙ ap (λ b. e ∷ cond b (e ∷ rest (Some e.0) es) (rest (Some e.0) es)) (sym (not_itself e.0))
              ∙ ap (λ x. x ∷ rest (Some x.0) (e ∷ es)) same
          | false ↦ λ p k.
              let below = first_of (entries.below_all R e.0 es) (entries.is_sorted R es) h in
              walk_step o es f (second_of (entries.below_all R e.0 es) (entries.is_sorted R es) h) k
              ∙ ap (λ b. f ∷ cond b (e ∷ rest (Some f.0) es) (rest (Some f.0) es))
              (sym (not_past e.0 f.0 (found_above (λ e. past o e.0) e.0 es f below k)))
        ] refl is

    -- what is come by is found by its key
    pub walk_found : (o : Option K) (es : List (K × X)) (f : K × X) → T (entries.is_sorted R es) →
        find (λ e. past o e.0) es ≡ Some f → entries.find R f.0 es ≡ Some f.1
    walk_found o [] f h is = cc
    walk_found o (e ∷ es) f h is =
        elim (past o e.0) as (λ b. cond b (Some e) (find (λ e. past o e.0) es) ≡ Some f →
        cond (is_eq (R f.0 e.0)) (Some e.1) (entries.find R f.0 es) ≡ Some f.1) [
          | true ↦ λ k.
              let same : e ≡ f = ap (λ o. unwrap_or o e) k in
              subst (λ x. cond (is_eq (R x.0 e.0)) (Some e.1) (entries.find R x.0 es) ≡ Some x.1) same
              (ap (λ r. cond (is_eq r) (Some e.1) (entries.find R e.0 es)) (tied_itself total e.0))
          | false ↦ λ k.
              let below = first_of (entries.below_all R e.0 es) (entries.is_sorted R es) h in
              let after : R f.0 e.0 ≡ Greater = total.antisymm f.0 e.0
              ∙ ap ordering_reverse (found_above (λ e. past o e.0) e.0 es f below k) in
              ap (λ r. cond (is_eq r) (Some e.1) (entries.find R f.0 es)) after
              ∙ walk_found o es f (second_of (entries.below_all R e.0 es) (entries.is_sorted R es) h) k
        ] is

    pub walk_end : (o : Option K) (es : List (K × X)) → find (λ e. past o e.0) es ≡ None → rest o es ≡ []
    walk_end o [] is = refl
    walk_end o (e ∷ es) is =
        elim (past o e.0) as (λ b. cond b (Some e) (find (λ e. past o e.0) es) ≡ None →
        cond b (e ∷ rest o es) (rest o es) ≡ []) [
          | true ↦ λ k. cc
          | false ↦ λ k. walk_end o es k
        ] is

    pub walk_start : (es : List (K × X)) → rest None es ≡ es
    walk_start [] = refl
    walk_start (e ∷ es) = ap (λ b. cond b (e ∷ rest None es) (rest None es)) (from_none e.0)
        ∙ ap (λ l. e ∷ l) (walk_start es)

-- TABLES OF ALL ROUTERS

module _ {V : Type 0} where
  -- the tables that are left
  abbrev pub tables_past : Option Addr → List (Addr × Table V) → List (Addr × Table V)
  tables_past o ts = filter (λ t. is_past o t.0) ts

  pub tables_start : (ts : List (Addr × Table V)) → tables_past None ts ≡ ts
  tables_start ts = walk_start addr_total is_past (λ k. refl) (λ a k. refl) ts

  step_by : (ts : List (Addr × Table V)) (o : Option Addr) (r : Addr) → T (entries.is_sorted addr_cmp ts) →
      (x : Option (Addr × Table V)) → find (λ t. is_past o t.0) ts ≡ x → option_map (λ t. t.0) x ≡ Some r →
      tables_past o ts ≡ (r, table_at r ts) ∷ tables_past (Some r) ts
  step_by ts o r sorted None found is = cc
  step_by ts o r sorted (Some f) found is =
      let here : f.0 ≡ r = ap (λ o. unwrap_or o f.0) is in
      let table : table_at f.0 ts ≡ f.1 =
      ap (λ x. unwrap_or x finite.empty)
      (walk_found addr_total is_past (λ k. refl) (λ a k. refl) o ts f sorted found) in
      walk_step addr_total is_past (λ k. refl) (λ a k. refl) o ts f sorted found
      ∙ ap (λ t. (f.0, t) ∷ tables_past (Some f.0) ts) (sym table)
      ∙ ap (λ s. (s, table_at s ts) ∷ tables_past (Some s) ts) here

  pub tables_step : (ts : List (Addr × Table V)) (o : Option Addr) (r : Addr) → T (entries.is_sorted addr_cmp ts) →
      next_of ts o ≡ Some r → tables_past o ts ≡ (r, table_at r ts) ∷ tables_past (Some r) ts
  tables_step ts o r sorted is = step_by ts o r sorted (find (λ t. is_past o t.0) ts) refl is

  end_by : (ts : List (Addr × Table V)) (o : Option Addr) (x : Option (Addr × Table V)) →
      find (λ t. is_past o t.0) ts ≡ x → option_map (λ t. t.0) x ≡ None → tables_past o ts ≡ []
  end_by ts o None found is = walk_end addr_total is_past (λ k. refl) (λ a k. refl) o ts found
  end_by ts o (Some f) found is = cc

  pub tables_end : (ts : List (Addr × Table V)) (o : Option Addr) → next_of ts o ≡ None → tables_past o ts ≡ []
  tables_end ts o is = end_by ts o (find (λ t. is_past o t.0) ts) refl is
