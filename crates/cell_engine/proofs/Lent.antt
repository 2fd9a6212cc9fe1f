-- A cell lent out of its table and put back: the tables with it in its place.
use Rattle.std.proofs.Common.{◌≡◌, Bool, true, false, cond, T, List, [], ◌∷◌, Option, Some, None, unwrap_or, refl, sym, ap, ◌∙◌}
use Rattle.std.proofs.lemmas.Option.{none-some}
use Rattle.std.specs.declared.cmp.Ordering.{Ordering}
use Rattle.std.specs.declared.cmp.Ordering.TheVariants.{Less, Equal, Greater}
use Rattle.std.specs.Cmp.{tied_itself}
use Rattle.std.specs.Ordering.{is_eq, eq_by_cmp}
use Rattle.std.specs.FinMap as finite
use Rattle.std.specs.FinMap.Entries as entries
use Rattle.std.specs.FinMap.Entries.{put, by_order}
use Rattle.net_prefix.specs.declared.addr.Addr.{Addr}
use Rattle.net_prefix.specs.Address.{addr_cmp}
use Rattle.net_prefix.specs.Prefix.{Prefix, prefix_cmp}
use Rattle.net_prefix.specs.Orders.{addr_total, prefix_total, prefix_exact}
use Rattle.prefix_table.specs.Tables.{Table}
use Rattle.prefix_table.proofs.Entries.{T_of, first, second}
use Rattle.cell_engine.specs.RouterTables.{AreByRouter, table_at, value_at, with_value}
use Rattle.reference_machine.proofs.Entries.{equal_from}
use Rattle.cell_engine.proofs.Halving.{find_below, below_less}

-- ENTRIES

module _ {A : Type 0} where
  twice_by : (o : Ordering) (r : Addr) (x y : A) (e : Addr × A) (es : List (Addr × A)) → addr_cmp r e.0 ≡ o →
      put addr_cmp r y (put addr_cmp r x es) ≡ put addr_cmp r y es →
      put addr_cmp r y (by_order o ((r, x) ∷ e ∷ es) ((e.0, x) ∷ es) (e ∷ put addr_cmp r x es))
      ≡ by_order o ((r, y) ∷ e ∷ es) ((e.0, y) ∷ es) (e ∷ put addr_cmp r y es)
  twice_by Less r x y e es is rest =
      ap (λ o. by_order o ((r, y) ∷ (r, x) ∷ e ∷ es) ((r, y) ∷ e ∷ es) ((r, x) ∷ put addr_cmp r y (e ∷ es)))
      (tied_itself addr_total r)
  twice_by Equal r x y e es is rest =
      ap (λ o. by_order o ((r, y) ∷ (e.0, x) ∷ es) ((e.0, y) ∷ es) ((e.0, x) ∷ put addr_cmp r y es)) is
  twice_by Greater r x y e es is rest =
      ap (λ o. by_order o ((r, y) ∷ e ∷ put addr_cmp r x es) ((e.0, y) ∷ put addr_cmp r x es)
      (e ∷ put addr_cmp r y (put addr_cmp r x es))) is
      ∙ ap (λ l. e ∷ l) rest

  -- the last value put in at an address stays
  put_twice : (r : Addr) (x y : A) (es : List (Addr × A)) → put addr_cmp r y (put addr_cmp r x es) ≡ put addr_cmp r y es
  put_twice r x y [] = ap (λ o. by_order o ((r, y) ∷ (r, x) ∷ []) ((r, y) ∷ []) ((r, x) ∷ (r, y) ∷ []))
      (tied_itself addr_total r)
  put_twice r x y (e ∷ es) = twice_by (addr_cmp r e.0) r x y e es refl (put_twice r x y es)

  same_put_by : (o : Ordering) (r : Addr) (x : A) (e : Addr × A) (es : List (Addr × A)) → addr_cmp r e.0 ≡ o →
      T (entries.below_all addr_cmp e.0 es) → cond (is_eq o) (Some e.1) (entries.find addr_cmp r es) ≡ Some x →
      (entries.find addr_cmp r es ≡ Some x → put addr_cmp r x es ≡ es) →
      by_order o ((r, x) ∷ e ∷ es) ((e.0, x) ∷ es) (e ∷ put addr_cmp r x es) ≡ e ∷ es
  same_put_by Less r x e es less behind is rest =
      absurd (none-some x (sym (find_below r es (below_less r e.0 es less behind)) ∙ is))
  same_put_by Equal r x e es same behind is rest = ap (λ v. (e.0, v) ∷ es) (sym (ap (λ o. unwrap_or o e.1) is))
  same_put_by Greater r x e es more behind is rest = ap (λ l. e ∷ l) (rest is)

  -- what is there, put in again, changes nothing
  put_same : (r : Addr) (x : A) (es : List (Addr × A)) → T (entries.is_sorted addr_cmp es) →
      entries.find addr_cmp r es ≡ Some x → put addr_cmp r x es ≡ es
  put_same r x [] sorted is = absurd (none-some x is)
  put_same r x (e ∷ es) sorted is =
      same_put_by (addr_cmp r e.0) r x e es refl
      (first (entries.below_all addr_cmp e.0 es) (entries.is_sorted addr_cmp es) sorted) is
      (put_same r x es (second (entries.below_all addr_cmp e.0 es) (entries.is_sorted addr_cmp es) sorted))

-- TABLES

eq_itself : (r : Addr) → eq_by_cmp addr_cmp r r ≡ true
eq_itself r = ap is_eq (tied_itself addr_total r)

module _ {V : Type 0} where
  twice : (b : Bool) (x y z : Option V) → cond b x (cond b y z) ≡ cond b x z
  twice true x y z = refl
  twice false x y z = refl

  insert_twice : (t : Table V) (p : Prefix) (g h : V) → finite.insert (finite.insert t p g) p h ≡ finite.insert t p h
  insert_twice t p g h = finite.same_map prefix_total prefix_exact (finite.insert (finite.insert t p g) p h)
      (finite.insert t p h) (λ q.
      finite.get-insert prefix_total (finite.insert t p g) p h q
      ∙ ap (cond (eq_by_cmp prefix_cmp q p) (Some h)) (finite.get-insert prefix_total t p g q)
      ∙ twice (eq_by_cmp prefix_cmp q p) (Some h) (Some g) (finite.get t q)
      ∙ sym (finite.get-insert prefix_total t p h q))

  same_by : (b : Bool) (t : Table V) (p q : Prefix) (h : V) → eq_by_cmp prefix_cmp q p ≡ b → finite.get t p ≡ Some h →
      cond b (Some h) (finite.get t q) ≡ finite.get t q
  same_by true t p q h same is = sym is ∙ sym (ap (finite.get t) (prefix_exact q p (equal_from (prefix_cmp q p) same)))
  same_by false t p q h other is = refl

  insert_same : (t : Table V) (p : Prefix) (h : V) → finite.get t p ≡ Some h → finite.insert t p h ≡ t
  insert_same t p h is = finite.same_map prefix_total prefix_exact (finite.insert t p h) t
      (λ q. finite.get-insert prefix_total t p h q ∙ same_by (eq_by_cmp prefix_cmp q p) t p q h refl is)

  -- the last value put in stays
  pub with_twice : (r : Addr) (p : Prefix) (g h : V) (ts : List (Addr × Table V)) →
      with_value r p h (with_value r p g ts) ≡ with_value r p h ts
  with_twice r p g h ts =
      let t = finite.insert (table_at r ts) p g in
      let here : table_at r (with_value r p g ts) ≡ t =
      ap (λ x. unwrap_or x finite.empty) (entries.find-put addr_cmp addr_total r r t ts
      ∙ ap (λ b. cond b (Some t) (entries.find addr_cmp r ts)) (eq_itself r)) in
      ap (λ x. put addr_cmp r (finite.insert x p h) (with_value r p g ts)) here
      ∙ ap (λ x. put addr_cmp r x (with_value r p g ts)) (insert_twice (table_at r ts) p g h)
      ∙ put_twice r t (finite.insert (table_at r ts) p h) ts

  -- what is there, put in again, changes nothing
  pub with_same : (r : Addr) (p : Prefix) (h : V) (ts : List (Addr × Table V)) → AreByRouter ts →
      value_at r p ts ≡ Some h → with_value r p h ts ≡ ts
  with_same r p h ts sorted is =
      ap (λ x. put addr_cmp r x ts) (insert_same (table_at r ts) p h is) ∙ by (entries.find addr_cmp r ts) refl is
    where
      by : (o : Option (Table V)) → entries.find addr_cmp r ts ≡ o → finite.get (unwrap_or o finite.empty) p ≡ Some h →
          put addr_cmp r (unwrap_or o finite.empty) ts ≡ ts
      by None at is = absurd (none-some h (sym (finite.get-empty prefix_cmp p) ∙ is))
      by (Some t) at is = put_same r t ts (T_of _ sorted) at
