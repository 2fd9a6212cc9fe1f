-- Tables that are seen through a function: what is found in them, and what a write says of them.
use Rattle.std.proofs.Common.{◌≡◌, ℕ, zero, suc, ◌&&◌, true, false, cond, List, [], ◌∷◌, set, insert, slice_get, Option, Some, None, Result, Ok, Err, IfOk, IfErr, OnOk, OnErr, IsTrue, unwrap_or, option_map, refl, sym, ap, ◌∙◌}
use Rattle.std.specs.List as list
use Rattle.std.specs.Ordering.{is_lt, is_eq}
use Rattle.std.specs.FinMap as finite
use Rattle.std.specs.FinMap.Entries.{put, find, below_all, is_sorted, by_order}
use Rattle.std.specs.declared.cmp.Ordering.TheVariants.{Less, Equal, Greater}
use Rattle.std.proofs.lemmas.List.{map-set}
use Rattle.std.proofs.lemmas.Option.{slice_get-map}
use Rattle.net_prefix.specs.declared.addr.Addr.{Addr}
use Rattle.net_prefix.specs.Address.{addr_cmp}
use Rattle.net_prefix.specs.Prefix.{Prefix, prefix_cmp}
use Rattle.prefix_table.specs.Tables.{Table, adjusted, adjusted_by}
use Rattle.cell_engine.specs.RouterTables.{tables_of, table_at, value_at, with_value, adjusted_value, adjusted_at, is_past, next_of}
use Rattle.cell_engine.specs.TablePlaces.{IsAt, IsFor}
use Rattle.cell_engine.proofs.Halving.{sorted-put}

set_got : {X : Type 0} (es : List X) (i : ℕ) (e : X) → slice_get es i ≡ Some e → set es i e ≡ es
set_got [] i e is = refl
set_got (x ∷ xs) zero e is = ap (λ y. y ∷ xs) (sym (ap (λ o. unwrap_or o x) is))
set_got (x ∷ xs) (suc i) e is = ap (λ l. x ∷ l) (set_got xs i e is)

-- what holds of what a call gives back
pub when_ok : {B F : Type 0} (o : Result B F) (P Q : B → Type 0) → ((b : B) → P b → Q b) → IfOk o P → IfOk o Q
when_ok (Ok b) P Q h is = h b is
when_ok (Err x) P Q h is = tt

pub when_err : {B F : Type 0} (o : Result B F) (P Q : F → Type 0) → ((x : F) → P x → Q x) → IfErr o P → IfErr o Q
when_err (Ok b) P Q h is = tt
when_err (Err x) P Q h is = h x is

module _ {V A : Type 0} (f : A → Table V) where
  pub find_seen : (r : Addr) (ts : List (Addr × A)) →
      find addr_cmp r (tables_of f ts) ≡ option_map f (find addr_cmp r ts)
  find_seen r [] = refl
  find_seen r (t ∷ ts) =
      ap (λ x. cond (is_eq (addr_cmp r t.0)) (Some (f t.1)) x) (find_seen r ts)
      ∙ elim (is_eq (addr_cmp r t.0)) as (λ b. cond b (Some (f t.1)) (option_map f (find addr_cmp r ts))
      ≡ option_map f (cond b (Some t.1) (find addr_cmp r ts))) [ true ↦ refl | false ↦ refl ]

  below_seen : (r : Addr) (ts : List (Addr × A)) → below_all addr_cmp r (tables_of f ts) ≡ below_all addr_cmp r ts
  below_seen r [] = refl
  below_seen r (t ∷ ts) = ap (λ b. is_lt (addr_cmp r t.0) && b) (below_seen r ts)

  pub sorted_seen : (ts : List (Addr × A)) → is_sorted addr_cmp (tables_of f ts) ≡ is_sorted addr_cmp ts
  sorted_seen [] = refl
  sorted_seen (t ∷ ts) = λ i. below_seen t.0 ts i && sorted_seen ts i

  pub put_seen : (r : Addr) (x : A) (ts : List (Addr × A)) →
      tables_of f (put addr_cmp r x ts) ≡ put addr_cmp r (f x) (tables_of f ts)
  put_seen r x [] = refl
  put_seen r x (t ∷ ts) =
      elim (addr_cmp r t.0) as (λ o.
      tables_of f (by_order o ((r, x) ∷ t ∷ ts) ((t.0, x) ∷ ts) (t ∷ put addr_cmp r x ts))
      ≡ by_order o ((r, f x) ∷ tables_of f (t ∷ ts)) ((t.0, f x) ∷ tables_of f ts)
      ((t.0, f t.1) ∷ put addr_cmp r (f x) (tables_of f ts))) [
        | Less ↦ refl
        | Equal ↦ refl
        | Greater ↦ ap (λ l. (t.0, f t.1) ∷ l) (put_seen r x ts)
      ]

  -- the router that comes next
  pub next_seen : (past : Option Addr) (ts : List (Addr × A)) →
      next_of (tables_of f ts) past ≡ option_map (λ t. t.0) (list.find (λ t. is_past past t.0) ts)
  next_seen past [] = refl
  next_seen past (t ∷ ts) =
      elim (is_past past t.0) as (λ b.
      option_map (λ e. e.0) (cond b (Some (t.0, f t.1)) (list.find (λ e. is_past past e.0) (tables_of f ts)))
      ≡ option_map (λ e. e.0) (cond b (Some t) (list.find (λ e. is_past past e.0) ts))) [
        | true ↦ refl
        | false ↦ next_seen past ts
      ]

  pub table_found : (r : Addr) (ts : List (Addr × A)) (x : A) → find addr_cmp r ts ≡ Some x →
      table_at r (tables_of f ts) ≡ f x
  table_found r ts x is = ap (λ y. unwrap_or y finite.empty) (find_seen r ts ∙ ap (option_map f) is)

  pub table_absent : (r : Addr) (ts : List (Addr × A)) → find addr_cmp r ts ≡ None →
      table_at r (tables_of f ts) ≡ finite.empty
  table_absent r ts is = ap (λ y. unwrap_or y finite.empty) (find_seen r ts ∙ ap (option_map f) is)

  -- the value in the table that is found
  pub value_found : (r : Addr) (p : Prefix) (ts : List (Addr × A)) (x : A) → find addr_cmp r ts ≡ Some x →
      value_at r p (tables_of f ts) ≡ finite.get (f x) p
  value_found r p ts x is = ap (λ t. finite.get t p) (table_found r ts x is)

  pub value_absent : (r : Addr) (p : Prefix) (ts : List (Addr × A)) → find addr_cmp r ts ≡ None →
      value_at r p (tables_of f ts) ≡ None
  value_absent r p ts is = ap (λ t. finite.get t p) (table_absent r ts is) ∙ finite.get-empty prefix_cmp p

  module _ (r : Addr) (ts : List (Addr × A)) (i : ℕ) where
    -- a table with a value put in is written at its place
    pub set_value : (p : Prefix) (v : V) (e : Addr × A) (new : A) → IsAt ts r i → slice_get ts i ≡ Some e →
        f new ≡ finite.insert (f e.1) p v
        → tables_of f (set ts i (e.0, new)) ≡ with_value r p v (tables_of f ts)
    set_value p v e new at_ got made =
        ap (λ k. tables_of f (set ts i (k, new))) (at_.key e got)
        ∙ ap (tables_of f) (at_.written new)
        ∙ put_seen r new ts
        ∙ ap (λ t. put addr_cmp r t (tables_of f ts)) (made
        ∙ ap (λ t. finite.insert t p v) (sym (table_found r ts e.1 (at_.value e got))))

    pub set_same : (e : Addr × A) (new : A) → slice_get ts i ≡ Some e → f new ≡ f e.1 →
        tables_of f (set ts i (e.0, new)) ≡ tables_of f ts
    set_same e new got made =
        map-set (λ t. (t.0, f t.1)) ts i (e.0, new)
        ∙ ap (λ t. set (tables_of f ts) i (e.0, t)) made
        ∙ set_got (tables_of f ts) i (e.0, f e.1) (slice_get-map (λ t. (t.0, f t.1)) ts i
        ∙ ap (option_map (λ t. (t.0, f t.1))) got)

    -- a table whose value is changed where it stands
    pub set_adjusted : (change : V → V) (p : Prefix) (e : Addr × A) (new : A) → IsAt ts r i → slice_get ts i ≡ Some e →
        f new ≡ adjusted change p (f e.1)
        → tables_of f (set ts i (e.0, new)) ≡ adjusted_at change r p (tables_of f ts)
    set_adjusted change p e new at_ got made =
        elim (finite.get (f e.1) p) as (λ o. finite.get (f e.1) p ≡ o → f new ≡ adjusted_by change p (f e.1) o →
        tables_of f (set ts i (e.0, new)) ≡ adjusted_at change r p (tables_of f ts)) [
          | None ↦ λ is same. set_same e new got same
              ∙ sym (ap (adjusted_value change r p (tables_of f ts)) (value_found r p ts e.1 (at_.value e got) ∙ is))
          | Some v ↦ λ is put_in. set_value p (change v) e new at_ got put_in
              ∙ sym (ap (adjusted_value change r p (tables_of f ts)) (value_found r p ts e.1 (at_.value e got) ∙ is))
        ] refl made

    -- a new router's table with one value goes to its place
    pub insert_value : (p : Prefix) (v : V) (empty new : A) → IsFor ts r i → f empty ≡ finite.empty →
        f new ≡ finite.insert (f empty) p v
        → tables_of f (insert ts i (r, new)) ≡ with_value r p v (tables_of f ts)
    insert_value p v empty new away none made =
        ap (tables_of f) (away.added new)
        ∙ put_seen r new ts
        ∙ ap (λ t. put addr_cmp r t (tables_of f ts)) (made
        ∙ ap (λ t. finite.insert t p v) (none ∙ sym (table_absent r ts away.absent)))

  -- the order is kept, whether a value was put in or not
  pub sorted_kept : {B F : Type 0} (o : Result B F) (r : Addr) (t : Table V) (ts ts' : List (Addr × A)) →
      IsTrue (is_sorted addr_cmp ts)
      → OnOk o (tables_of f ts' ≡ put addr_cmp r t (tables_of f ts)) → OnErr o (tables_of f ts' ≡ tables_of f ts) →
      IsTrue (is_sorted addr_cmp ts')
  sorted_kept (Ok x) r t ts ts' sorted ok err = sym (sorted_seen ts') ∙ ap (is_sorted addr_cmp) ok
      ∙ sorted-put r t (tables_of f ts) (sorted_seen ts ∙ sorted)
  sorted_kept (Err x) r t ts ts' sorted ok err = sym (sorted_seen ts') ∙ ap (is_sorted addr_cmp) err
      ∙ sorted_seen ts ∙ sorted

  order_adjusted : (change : V → V) (r : Addr) (p : Prefix) (ts : List (Addr × Table V)) (o : Option V) →
      IsTrue (is_sorted addr_cmp ts) → IsTrue (is_sorted addr_cmp (adjusted_value change r p ts o))
  order_adjusted change r p ts None sorted = sorted
  order_adjusted change r p ts (Some v) sorted = sorted-put r (finite.insert (table_at r ts) p (change v)) ts sorted

  -- so it is where a value is changed
  pub adjusted_kept : (change : V → V) (r : Addr) (p : Prefix) (ts ts' : List (Addr × A)) →
      IsTrue (is_sorted addr_cmp ts)
      → tables_of f ts' ≡ adjusted_at change r p (tables_of f ts) → IsTrue (is_sorted addr_cmp ts')
  adjusted_kept change r p ts ts' sorted made =
      sym (sorted_seen ts') ∙ ap (is_sorted addr_cmp) made
      ∙ order_adjusted change r p (tables_of f ts) (value_at r p (tables_of f ts)) (sorted_seen ts ∙ sorted)
