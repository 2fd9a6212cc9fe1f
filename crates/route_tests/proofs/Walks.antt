-- A walk by the first entry after the last one comes by each entry once.
use Rattle.std.proofs.Common.{◌≡◌, Bool, true, false, cond, ◌&&◌, T, List, [], ◌∷◌, filter, Option, Some, None, unwrap_or, refl, sym, ap, subst, ◌∙◌}
use Rattle.std.specs.List.{find}
use Rattle.std.specs.declared.cmp.Ordering.{Ordering}
use Rattle.std.specs.declared.cmp.Ordering.TheVariants.{Less, Equal, Greater}
use Rattle.std.specs.Ordering.{is_lt, ordering_reverse}
use Rattle.std.specs.Cmp.{tied_itself}
use Rattle.std.specs.FinMap as fin
use Rattle.std.specs.FinMap.Entries.{below_all, is_sorted}
use Rattle.net_prefix.specs.Prefix.{Prefix, prefix_cmp}
use Rattle.prefix_table.specs.Tables.{Table, is_after, first_after}
use Rattle.net_prefix.specs.Orders.{prefix_total}
use Rattle.route_tests.specs.Walks.{rest_after}

less_of : (o : Ordering) → T (is_lt o) → o ≡ Less
less_of Less e = refl
less_of Equal e = absurd e
less_of Greater e = absurd e

first : (a b : Bool) → T (a && b) → T a
first true b p = tt
first false b p = p

second : (a b : Bool) → T (a && b) → T b
second true b p = p
second false b p = absurd p

-- whether all that comes after y comes after o
abbrev Reaches : Option Prefix → Prefix → Type 0
Reaches o y = (z : Prefix) → prefix_cmp y z ≡ Less → is_after o z ≡ true

reaches : (o : Option Prefix) (y : Prefix) → is_after o y ≡ true → Reaches o y
reaches None y h z l = refl
reaches (Some a) y h z l = ap is_lt (prefix_total.trans a y z (less_of _ (subst T (sym h) tt)) l)

not_after : (y z : Prefix) → prefix_cmp y z ≡ Less → is_after (Some z) y ≡ false
not_after y z l = ap is_lt (prefix_total.antisymm z y ∙ ap ordering_reverse l)

not_itself : (y : Prefix) → is_after (Some y) y ≡ false
not_itself y = ap is_lt (tied_itself prefix_total y)

module _ {V : Type 0} where
  all_after : (o : Option Prefix) (y : Prefix) (es : List (Prefix × V)) → Reaches o y → T (below_all prefix_cmp y es) →
      filter (λ e. is_after o e.0) es ≡ es
  all_after o y [] r h = refl
  all_after o y (e ∷ es) r h =
      ap (λ b. cond b (e ∷ filter (λ e. is_after o e.0) es) (filter (λ e. is_after o e.0) es))
      (r e.0 (less_of _ (first _ _ h)))
      ∙ ap (λ l. e ∷ l) (all_after o y es r (second (is_lt (prefix_cmp y e.0)) (below_all prefix_cmp y es) h))

  found_above : (p : Prefix × V → Bool) (y : Prefix) (es : List (Prefix × V)) (f : Prefix × V) →
      T (below_all prefix_cmp y es) → find p es ≡ Some f → prefix_cmp y f.0 ≡ Less
  found_above p y [] f h is = cc
  found_above p y (e ∷ es) f h is =
      elim (p e) as (λ b. cond b (Some e) (find p es) ≡ Some f → prefix_cmp y f.0 ≡ Less) [
        | true ↦ λ k. subst (λ x. prefix_cmp y x ≡ Less) (ap (λ o. (unwrap_or o e).0) k) (less_of _ (first _ _ h))
        | false ↦ λ k. found_above p y es f (second (is_lt (prefix_cmp y e.0)) (below_all prefix_cmp y es) h) k
      ] is

  abbrev after : Option Prefix → List (Prefix × V) → List (Prefix × V)
  after o es = filter (λ e. is_after o e.0) es

  pub step : (o : Option Prefix) (es : List (Prefix × V)) (f : Prefix × V) → T (is_sorted prefix_cmp es) →
      find (λ e. is_after o e.0) es ≡ Some f → after o es ≡ f ∷ after (Some f.0) es
  step o [] f h is = cc
  step o (e ∷ es) f h is =
      elim (is_after o e.0) as (λ b. is_after o e.0 ≡ b → cond b (Some e) (find (λ e. is_after o e.0) es) ≡ Some f →
      cond b (e ∷ after o es) (after o es) ≡ f ∷ after (Some f.0) (e ∷ es)) [
        | true ↦ λ p k.
            let same : e ≡ f = ap (λ o. unwrap_or o e) k in
            let below = first (below_all prefix_cmp e.0 es) (is_sorted prefix_cmp es) h in
            ap (λ l. e ∷ l) (all_after o e.0 es (reaches o e.0 p) below)
            ∙ ap (λ l. e ∷ l) (sym (all_after (Some e.0) e.0 es (λ z l. ap is_lt l) below))
            ∙ ap (λ b. e ∷ cond b (e ∷ after (Some e.0) es) (after (Some e.0) es)) (sym (not_itself e.0))
            ∙ ap (λ x. x ∷ after (Some x.0) (e ∷ es)) same
        | false ↦ λ p k.
            let below = first (below_all prefix_cmp e.0 es) (is_sorted prefix_cmp es) h in
            step o es f (second (below_all prefix_cmp e.0 es) (is_sorted prefix_cmp es) h) k
            ∙ ap (λ b. f ∷ cond b (e ∷ after (Some f.0) es) (after (Some f.0) es))
            (sym (not_after e.0 f.0 (found_above (λ e. is_after o e.0) e.0 es f below k)))
      ] refl is

  pub none_after : (o : Option Prefix) (es : List (Prefix × V)) → find (λ e. is_after o e.0) es ≡ None → after o es ≡ []
  none_after o [] is = refl
  none_after o (e ∷ es) is =
      elim (is_after o e.0) as (λ b. cond b (Some e) (find (λ e. is_after o e.0) es) ≡ None →
      cond b (e ∷ after o es) (after o es) ≡ []) [
        | true ↦ λ k. cc
        | false ↦ λ k. none_after o es k
      ] is

  pub all_first : (es : List (Prefix × V)) → after None es ≡ es
  all_first [] = refl
  all_first (e ∷ es) = ap (λ l. e ∷ l) (all_first es)

  pub walk_step : (t : Table V) (o : Option Prefix) (f : Prefix × V) → first_after t o ≡ Some f →
      rest_after t o ≡ f ∷ rest_after t (Some f.0)
  walk_step t o f is = step o (fin.entries t) f (fin.entries_sorted t) is
