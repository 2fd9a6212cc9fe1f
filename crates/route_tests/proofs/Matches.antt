-- The longest match is known from the map.
use Rattle.std.proofs.Common.{◌≡◌, ◌≢◌, ℕ, ◌≤◌, ◌-◌, ◌/◌, ◌^◌, true, false, cond, Option, Some, None, is_some, refl, sym, ap, ◌∙◌, arith}
use Rattle.std.proofs.lemmas.Option.{same_Some}
use Rattle.std.specs.Option.{IfSome, IfNone}
use Rattle.std.specs.FinMap as map
use Rattle.std.specs.declared.cmp.Ordering.TheVariants.{Less, Equal, Greater}
use Rattle.std.specs.Ordering.{is_eq, eq_by_cmp}
use Rattle.std.specs.Cmp.{tied_itself}
use Rattle.net_prefix.specs.declared.addr.Addr.{Addr}
use Rattle.net_prefix.specs.Prefix.{Prefix, MakePrefix, prefix_cmp}
use Rattle.net_prefix.specs.Orders.{prefix_total, prefix_exact}
use Rattle.prefix_table.specs.Places.{prefix_around}
use Rattle.prefix_table.specs.Tables.{Table, Matches, IsLongestMatch, HasNoMatch}
use Rattle.prefix_table.proofs.Lengths.{match_is_prefix_around}

pub other_keys : (p q : Prefix) → p ≢ q → eq_by_cmp prefix_cmp p q ≡ false
other_keys p q other = elim (prefix_cmp p q) as (λ o. prefix_cmp p q ≡ o → is_eq o ≡ false) [
  | Less ↦ λ e. refl
  | Equal ↦ λ e. absurd (other (prefix_exact p q e))
  | Greater ↦ λ e. refl
] refl

-- of one length, one prefix matches
one_match : (a : Addr) (most : ℕ) (p q : Prefix) → Matches a most p → Matches a most q → p.len ≤ q.len →
    q.len ≤ p.len → p ≡ q
one_match a most p q hp hq le ge =
    let same : p.len ≡ q.len = omega arith in
    match_is_prefix_around a most p hp ∙ ap (prefix_around a) same ∙ sym (match_is_prefix_around a most q hq)

same_key : (p : Prefix) → eq_by_cmp prefix_cmp p p ≡ true
same_key p = ap is_eq (tied_itself prefix_total p)

module _ {V : Type 0} where
  one_longest : (t : Table V) (a : Addr) (most : ℕ) (p q : Prefix) (v w : V) → IsLongestMatch t a most p v →
      IsLongestMatch t a most q w → (p ≡ q) × (v ≡ w)
  one_longest t a most p q v w hp hq =
      let le : q.len ≤ p.len = hp.match.longest q hq.match.has in
      let ge : p.len ≤ q.len = hq.match.longest p hp.match.has in
      let same = one_match a most p q hp.match.has.0 hq.match.has.0 ge le in
      (same, same_Some v w (sym hp.value ∙ ap (map.get t) same ∙ hq.value))

  not_none : (t : Table V) (a : Addr) (most : ℕ) (p : Prefix) (v : V) → IsLongestMatch t a most p v →
      HasNoMatch t a most → ⊥
  not_none t a most p v h none = none p h.match.has

  -- an answer of either kind
  pub record IsAnswer (t : Table V) (a : Addr) (most : ℕ) (r : Option (Prefix × V)) : Type 0 where
    pub found : IfSome r (λ e. IsLongestMatch t a most e.0 e.1)
    pub none : IfNone r (HasNoMatch t a most)

  pub one_answer : (t : Table V) (a : Addr) (most : ℕ) (r s : Option (Prefix × V)) → IsAnswer t a most r →
      IsAnswer t a most s → r ≡ s
  one_answer t a most None None x y = refl
  one_answer t a most None (Some f) x y = absurd (not_none t a most f.0 f.1 y.found x.none)
  one_answer t a most (Some e) None x y = absurd (not_none t a most e.0 e.1 x.found y.none)
  one_answer t a most (Some e) (Some f) x y = let same = one_longest t a most e.0 f.0 e.1 f.1 x.found y.found in
      λ i. Some (same.0 i, same.1 i)

  pub own_match : (t new : Table V) (p : Prefix) (v : V) (len : ℕ) (a : Addr) (r : Option (Prefix × V)) →
      MakePrefix p.addr p.len → a ≡ p.addr → len ≡ p.len → new ≡ map.insert t p v →
      IsAnswer new a len r → r ≡ Some (p, v)
  own_match t new p v len a r block ea el is answer =
      let entry : map.get new p ≡ Some v = ap (λ m. map.get m p) is ∙ map.get-insert prefix_total t p v p
      ∙ ap (λ b. cond b (Some v) (map.get t p)) (same_key p) in
      let matches : Matches a len p = (block, omega (arith, el), ap (λ b. b.0 / 2 ^ (32 - p.len)) ea) in
      elim r as (λ o. IsAnswer new a len o → o ≡ Some (p, v)) [
        | None ↦ λ x. absurd (x.none p (matches, ap is_some entry))
        | Some e ↦ λ x.
            let longer : p.len ≤ e.0.len = x.found.match.longest p (matches, ap is_some entry) in
            let same : e.0 ≡ p = one_match a len e.0 p x.found.match.has.0 matches
            (omega (arith, x.found.match.has.0.1, el)) longer in
            let value : e.1 ≡ v = same_Some e.1 v (sym x.found.value ∙ ap (map.get new) same ∙ entry) in
            λ i. Some (same i, value i)
      ] answer
