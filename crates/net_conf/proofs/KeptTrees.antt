-- The ends of sessions, and the trees that are kept of them.
use Rattle.std.proofs.Common.{◌≡◌, Bool, true, false, cond, ◌==◌, ◌||◌, nat_le, List, [], ◌∷◌, Some, None, All, is_some, if◌then◌else◌, refl, sym, ap, ◌∙◌, subst, arith}
use Rattle.std.specs.declared.cmp.Ordering.{Ordering}
use Rattle.std.specs.declared.cmp.Ordering.TheVariants.{Less, Equal, Greater}
use Rattle.std.specs.Ordering.{is_eq}
use Rattle.std.specs.Cmp.{IsTotalOrder, tied_itself, unsigned_ties}
use Rattle.std.specs.List.{list_any}
use Rattle.std.specs.Map.{keys_of, lookup}
use Rattle.std.specs.BTreeMap.{is_at}
use Rattle.std.proofs.lemmas.Cmp.{on_total, then_total, nat_eq_equiv}
use Rattle.std.proofs.lemmas.Bool.{true≢false, leb-true, leb-false}
use Rattle.std.proofs.Math.Bool.{or_comm}
use Rattle.std.proofs.lemmas.Option.{none-some, same_Some}
use Rattle.std.proofs.lemmas.List.Elements.{All-head, All-tail}
use Rattle.std.proofs.lemmas.Map.Lookups.{CmpEqualImpliesEq, exact_pairs}
use Rattle.net_prefix.specs.declared.addr.Addr.{Addr}
use Rattle.net_prefix.specs.Address.{addr_cmp}
use Rattle.net_prefix.specs.Orders.{addr_total, addr_exact}
use Rattle.igp_cost.specs.Trees.{Reached}
use Rattle.net_conf.specs.declared.tables.Ends.{Ends}
use Rattle.net_conf.specs.Configuration.{Configuration, has_node, ends_of, ends_cmp, is_end, ends_session, has_session}
use Rattle.net_conf.specs.Costs.{costs_of}
use Rattle.net_conf.specs.Configured.{HasEnds}
use Rattle.net_conf.specs.Kept.{IsSound, tree_kept}

pub equal_when : (o : Ordering) → is_eq o ≡ true → o ≡ Equal
equal_when Less is = absurd (true≢false (sym is))
equal_when Equal is = refl
equal_when Greater is = absurd (true≢false (sym is))

pub ends_exact : CmpEqualImpliesEq ends_cmp
ends_exact x y same =
    let ends : Addr × Addr → Ends = λ parts. record { low = parts.0; high = parts.1 } in
    ap ends (exact_pairs addr_cmp addr_cmp addr_exact addr_exact (x.low, x.high) (y.low, y.high) same)

pub same_ends : (x y : Ends) → is_at (ends_cmp x) y ≡ true → x ≡ y
same_ends x y is = ends_exact x y (equal_when (ends_cmp x y) is)

pub same_address : (a b : Addr) → (a.0 == b.0) ≡ true → a ≡ b
same_address a b is = addr_exact a b (equal_when (addr_cmp a b) (sym (unsigned_ties a.0 b.0) ∙ is))

pub ends_total : IsTotalOrder ends_cmp
ends_total = then_total (on_total (λ e. e.low) addr_total) (on_total (λ e. e.high) addr_total)

ends_by : (t u : Bool) (a b : Addr) → nat_le a.0 b.0 ≡ t → nat_le b.0 a.0 ≡ u → ends_of a b ≡ ends_of b a
ends_by true true a b is is' =
    let same : a ≡ b = ap (λ n. record { 0 = n }) (omega (arith, leb-true a.0 b.0 is, leb-true b.0 a.0 is')) in
    subst (λ x. ends_of a x ≡ ends_of x a) same refl
ends_by true false a b is is' = rw is (rw is' refl)
ends_by false true a b is is' = rw is (rw is' refl)
ends_by false false a b is is' = absurd (omega (arith, leb-false a.0 b.0 is, leb-false b.0 a.0 is'))

pub ends_turned : (a b : Addr) → ends_of a b ≡ ends_of b a
ends_turned a b = ends_by (nat_le a.0 b.0) (nat_le b.0 a.0) a b refl refl

-- a session of the two is one of the two in the other order
pub session_turned : (c : Configuration) (a b : Addr) → has_session c a b ≡ true → has_session c b a ≡ true
session_turned c a b is = ap (λ e. is_some (lookup (is_at (ends_cmp e)) c.sessions))
    (ends_by (nat_le b.0 a.0) (nat_le a.0 b.0) b a refl refl) ∙ is

-- who is an end of the ends of two is one of the two
pub end_of_two : (r a b : Addr) → is_end r (ends_of a b) ≡ (is_at (addr_cmp r) a || is_at (addr_cmp r) b)
end_of_two r a b = by (nat_le a.0 b.0)
    ∙ both (nat_eq_equiv.symm a.0 r.0 ∙ unsigned_ties r.0 a.0) (nat_eq_equiv.symm b.0 r.0 ∙ unsigned_ties r.0 b.0)
  where
    by : (le : Bool) → is_end r (if le then record { low = a; high = b } else record { low = b; high = a })
        ≡ (a.0 == r.0 || b.0 == r.0)
    by true = refl
    by false = or_comm (b.0 == r.0) (a.0 == r.0)

    both : {p q t u : Bool} → p ≡ t → q ≡ u → (p || q) ≡ (t || u)
    both is is' = λ i. is i || is' i

pub found_itself : (a : Addr) → is_at (addr_cmp a) a ≡ true
found_itself a = ap is_eq (tied_itself addr_total a)

pub first_of_two : (a b : Addr) → is_end a (ends_of a b) ≡ true
first_of_two a b = end_of_two a a b ∙ ap (λ t. t || is_at (addr_cmp a) b) (found_itself a)

pub or_right : (t : Bool) {u : Bool} → u ≡ true → (t || u) ≡ true
or_right true is = refl
or_right false is = is

ends_found : (a : Addr) (e : Ends) → is_end a e ≡ true → (sessions : List (Ends × Bool)) →
    is_some (lookup (is_at (ends_cmp e)) sessions) ≡ true → list_any (λ s. is_end a s.0) sessions ≡ true
ends_found a e is [] found = absurd (true≢false (sym found))
ends_found a e is (s ∷ sessions) found = by (is_at (ends_cmp e) s.0) refl (ends_found a e is sessions)
  where
    by : (t : Bool) → is_at (ends_cmp e) s.0 ≡ t →
        (is_some (lookup (is_at (ends_cmp e)) sessions) ≡ true → list_any (λ s. is_end a s.0) sessions ≡ true) →
        (is_end a s.0 || list_any (λ s. is_end a s.0) sessions) ≡ true
    by true at rest = ap (λ t. t || list_any (λ s. is_end a s.0) sessions) (ap (is_end a) (sym (same_ends e s.0 at))
        ∙ is)
    by false at rest = or_right (is_end a s.0)
        (rest (sym (ap (λ t. is_some (cond t (Some s.1) (lookup (is_at (ends_cmp e)) sessions))) at) ∙ found))

-- a session has its first end
pub session_ends : (c : Configuration) (a b : Addr) → has_session c a b ≡ true → ends_session c a ≡ true
session_ends c a b is = ends_found a (ends_of a b) (first_of_two a b) c.sessions is

-- an end of a session is a node
pub node_of_end : (c : Configuration) (r : Addr) → All (HasEnds c) (keys_of c.sessions) → ends_session c r ≡ true →
    has_node c r ≡ true
node_of_end c r ends is = among c.sessions ends is
  where
    one : (e : Ends) (t u : Bool) → e.low.0 == r.0 ≡ t → e.high.0 == r.0 ≡ u → HasEnds c e → (rest : Bool) →
        (rest ≡ true → has_node c r ≡ true) → ((t || u) || rest) ≡ true → has_node c r ≡ true
    one e true u low high has rest later is = subst (λ x. has_node c x ≡ true) (same_address e.low r low) has.0
    one e false true low high has rest later is = subst (λ x. has_node c x ≡ true) (same_address e.high r high) has.1
    one e false false low high has rest later is = later is

    among : (sessions : List (Ends × Bool)) → All (HasEnds c) (keys_of sessions) →
        list_any (λ s. is_end r s.0) sessions ≡ true → has_node c r ≡ true
    among [] all is = absurd (true≢false (sym is))
    among (s ∷ sessions) all is = one s.0 (s.0.low.0 == r.0) (s.0.high.0 == r.0) refl refl
        (All-head (HasEnds c) s.0 (keys_of sessions) all) (list_any (λ s. is_end r s.0) sessions)
        (among sessions (All-tail (HasEnds c) s.0 (keys_of sessions) all)) is

pub end_node : (c : Configuration) (r : Addr) → IsSound c → ends_session c r ≡ true → has_node c r ≡ true
end_node c r sound is = node_of_end c r sound.sessions is

-- the tree of an end of a session
pub tree_there : (c : Configuration) (a : Addr) → ends_session c a ≡ true → tree_kept c a ≡ Some (costs_of c a)
tree_there c a is = ap (λ t. if t then Some (costs_of c a) else None) is

-- a tree that is kept is the address's, which is an end of a session
pub kept_is : (c : Configuration) (a : Addr) (t : Reached) → tree_kept c a ≡ Some t → (ends_session c a ≡ true)
    × (t ≡ costs_of c a)
kept_is c a t is = by (ends_session c a) is
  where
    by : (ends : Bool) → (if ends then Some (costs_of c a) else None) ≡ Some t → (ends ≡ true) × (t ≡ costs_of c a)
    by true it = (refl, sym (same_Some _ _ it))
    by false it = absurd (none-some t it)
