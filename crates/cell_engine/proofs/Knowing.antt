-- What stays known of a table's NEXT_HOPs as its cells change.
use Rattle.std.proofs.Common.{◌≡◌, Bool, true, false, true≢false, cond, List, Option, Some, None, Result, Ok, Err, IfOk, is_eq, sym, ap, ◌∙◌, subst, refl}
use Rattle.std.specs.Result.{is_ok}
use Rattle.std.specs.FinMap as finite
use Rattle.std.specs.Ordering.{eq_by_cmp}
use Rattle.std.specs.declared.cmp.Ordering.TheVariants.{Less, Equal, Greater}
use Rattle.std.proofs.lemmas.Option.{none-some, same_Some}
use Rattle.net_prefix.specs.declared.addr.Addr.{Addr}
use Rattle.net_prefix.specs.Prefix.{Prefix, prefix_cmp}
use Rattle.net_prefix.specs.Orders.{prefix_total, prefix_exact}
use Rattle.path_attr.specs.declared.attr.Attr.{Attr}
use Rattle.prefix_table.specs.Tables.{Table, adjusted, adjusted_by}
use Rattle.cell_engine.specs.Cells.{Cell}
use Rattle.cell_engine.specs.declared.hop_table.hops.Hops.{Hops}
use Rattle.cell_engine.specs.declared.hop_table.hops.Hops.TheVariants.{Nothing}
use Rattle.cell_engine.specs.Hops.{Have, AreKnown}

pub none_known : (t : Table Cell) → t ≡ finite.empty → AreKnown Nothing t
none_known t is p h found =
    absurd (none-some h (sym (ap (λ m. finite.get m p) is ∙ finite.get-empty prefix_cmp p) ∙ found))

-- what is known after keeps what is known before
module _ (before after : Hops) (t : Table Cell) (known : AreKnown before t) (keeps : (routes : List (Addr × Attr)) →
    Have before routes → Have after routes) where
  known_put : (p : Prefix) (v : Cell) → Have after v.received → AreKnown after (finite.insert t p v)
  known_put p v covers q h found =
      let by : (b : Bool) → cond b (Some v) (finite.get t q) ≡ Some h → Have after h.received = elim [
        | true ↦ λ is. subst (λ x. Have after x.received) (same_Some v h is) covers
        | false ↦ λ is. keeps h.received (known q h is)
      ] in
      by (eq_by_cmp prefix_cmp q p) (sym (finite.get-insert prefix_total t p v q) ∙ found)

  pub known_when : {A F : Type 0} (o : Result A F) (p : Prefix) (v : Cell) (t' : Table Cell) → Have after v.received →
      IfOk o (λ _. t' ≡ finite.insert t p v) → is_ok o ≡ true → AreKnown after t'
  known_when (Ok x) p v t' covers put done = subst (AreKnown after) (sym put) (known_put p v covers)
  known_when (Err x) p v t' covers put done = absurd (true≢false (sym done))

  elsewhere : (f : Cell → Cell) (p q : Prefix) → eq_by_cmp prefix_cmp q p ≡ false → (o : Option Cell) →
      finite.get (adjusted_by f p t o) q ≡ finite.get t q
  elsewhere f p q other None = refl
  elsewhere f p q other (Some v) = finite.get-insert prefix_total t p (f v) q
      ∙ ap (λ b. cond b (Some (f v)) (finite.get t q)) other

  pub known_adjusted : (f : Cell → Cell) (p : Prefix) (t' : Table Cell) →
      ((h : Cell) → finite.get t' p ≡ Some h → Have after h.received) → t' ≡ adjusted f p t → AreKnown after t'
  known_adjusted f p t' covers is q h found =
      let apart : eq_by_cmp prefix_cmp q p ≡ false → Have after h.received =
      λ other. keeps h.received (known q h (sym (elsewhere f p q other (finite.get t p))
      ∙ ap (λ m. finite.get m q) (sym is) ∙ found)) in
      elim (prefix_cmp q p) as (λ o. prefix_cmp q p ≡ o → Have after h.received) [
        | Less ↦ λ other. apart (ap is_eq other)
        | Equal ↦ λ same. covers h (ap (finite.get t') (sym (prefix_exact q p same)) ∙ found)
        | Greater ↦ λ other. apart (ap is_eq other)
      ] refl
