-- What an edit that is not refused keeps of nodes and sessions.
use Rattle.std.proofs.Common.{◌≡◌, ◌⊎◌, inl, inr, ⊎_elim, ℕ, Bool, true, false, not, ◌&&◌, ◌==◌, nat_le, cond, List, [], ◌∷◌, Option, Some, None, option_map, is_some, unwrap_or, if◌then◌else◌, refl, sym, ap, ◌∙◌, subst, arith}
use Rattle.std.specs.Cmp.{IsTotalOrder, unsigned_ties, unsigned_Decides, both_tied}
use Rattle.std.specs.BTreeMap.{is_at, insert_entry}
use Rattle.std.specs.List.{AllByRecursion}
use Rattle.std.specs.Map.{lookup}
use Rattle.std.proofs.lemmas.Bool.{true≢false, and_parts, false_from_ne_true, not-false, leb-true, leb-false}
use Rattle.std.proofs.lemmas.Cmp.{then_total, on_total, nat_cmp_total, nat_eq_equiv}
use Rattle.net_prefix.specs.declared.addr.Addr.{Addr}
use Rattle.net_prefix.specs.Address.{same_addr, addr_cmp}
use Rattle.path_attr.specs.Number.{same_number}
use Rattle.net_conf.specs.declared.tables.Ends.{Ends}
use Rattle.net_conf.specs.declared.tables.Link.{Link as TheLink}
use Rattle.net_conf.specs.declared.tables.Node.{Node}
use Rattle.net_conf.specs.declared.tables.PolicySide.{PolicySide}
use Rattle.net_conf.specs.declared.tables.PolicySide.TheVariants.{Import, Export}
use Rattle.net_conf.specs.declared.edit.Edit.{Edit}
use Rattle.net_conf.specs.declared.edit.Edit.TheVariants.{Router, Virtual, Metric, Fail, Mend, Join, Stop, Start, Rule as AddRule, Clear}
use Rattle.net_conf.specs.declared.refusal.Refusal.{Refusal}
use Rattle.route_policy.specs.declared.rule.Rule.{Rule}
use Rattle.net_conf.specs.Configuration.{Configuration, node_at, has_node, as_of, is_external, ends_of, ends_cmp, link_between, session_between, has_session}
use Rattle.net_conf.specs.Costs.{session_up, is_connected, is_up}
use Rattle.net_conf.specs.Edits.{first_of, tests_of, refusal_of, edited, lacks_node, repeats_node, has_one_end, is_inside, lacks_session, repeats_session, with_link_changed, with_rule_of, without_rules_of, with_session}
use Rattle.reference_machine.proofs.Entries.{lookup_inserted}
use Rattle.session_law.proofs.Keys.{same_addr_true, same_addr_itself}

-- WHAT IS NOT REFUSED

some_none : (r : Refusal) → Some r ≡ None → ⊥
some_none r e = cc

passed : (b : Bool) (r : Refusal) (ts : List (Bool × Refusal)) → first_of ((b, r) ∷ ts) ≡ None → (b ≡ false)
    × (first_of ts ≡ None)
passed false r ts none = (refl, none)
passed true r ts none = absurd (some_none r none)

-- each test of a list without a first one fails
pub all_fail : (ts : List (Bool × Refusal)) → first_of ts ≡ None → AllByRecursion (λ t. t.0 ≡ false) ts
all_fail [] none = tt
all_fail ((b, r) ∷ ts) none = let rest = passed b r ts none in (rest.0, all_fail ts rest.1)

-- the tests of nodes and of sessions that do not hold of an edit that is not refused
pub record Passes (c : Configuration) (e : Edit) : Type 0 where
  pub nodes : lacks_node c e ≡ false
  pub fresh : repeats_node c e ≡ false
  pub two : has_one_end e ≡ false
  pub outside : is_inside c e ≡ false
  pub session : lacks_session c e ≡ false
  pub apart : repeats_session c e ≡ false

pub passes : (c : Configuration) (e : Edit) → refusal_of c e ≡ None → Passes c e
unfolding refusal_of
passes c e none =
    let t = all_fail (tests_of c e) none in
    record {
      nodes = t.0;
      fresh = t.1.0;
      two = t.1.1.0;
      outside = t.1.1.1.1.0;
      session = t.1.1.1.1.1.1.1.1.0;
      apart = t.1.1.1.1.1.1.1.1.1.0;
    }

-- THE TWO ENDS OF A SESSION

pub addr_from : (a b : Addr) → a.0 ≡ b.0 → a ≡ b
addr_from a b e = ap (λ n. record { 0 = n }) e

ends_by : (b c : Bool) (x y : Addr) → nat_le x.0 y.0 ≡ b → nat_le y.0 x.0 ≡ c → ends_of x y ≡ ends_of y x
ends_by true true x y is is' =
    let low : x ≡ y = addr_from x y (omega (arith, leb-true x.0 y.0 is, leb-true y.0 x.0 is')) in
    subst (λ z. ends_of x z ≡ ends_of z x) low refl
ends_by true false x y is is' = rw is (rw is' refl)
ends_by false true x y is is' = rw is (rw is' refl)
ends_by false false x y is is' = absurd (omega (arith, leb-false x.0 y.0 is, leb-false y.0 x.0 is'))

-- the ends are the same in both orders
pub ends_either : (x y : Addr) → ends_of x y ≡ ends_of y x
ends_either x y = ends_by (nat_le x.0 y.0) (nat_le y.0 x.0) x y refl refl

-- the two are one pair, in one order or the other
abbrev pub ArePair : Addr → Addr → Addr → Addr → Type 0
ArePair a b x y = ((a ≡ x) × (b ≡ y)) ⊎ ((a ≡ y) × (b ≡ x))

abbrev sorted_ends : Bool → Addr → Addr → Ends
sorted_ends b x y = if b then record { low = x; high = y } else record { low = y; high = x }

pair_by : (s t : Bool) (a b x y : Addr) → sorted_ends s a b ≡ sorted_ends t x y → ArePair a b x y
pair_by true true a b x y e = inl (ap (λ z. z.low) e, ap (λ z. z.high) e)
pair_by true false a b x y e = inr (ap (λ z. z.low) e, ap (λ z. z.high) e)
pair_by false true a b x y e = inr (ap (λ z. z.high) e, ap (λ z. z.low) e)
pair_by false false a b x y e = inl (ap (λ z. z.high) e, ap (λ z. z.low) e)

pair_from_ends : (a b x y : Addr) → ends_of a b ≡ ends_of x y → ArePair a b x y
pair_from_ends a b x y e = pair_by (nat_le a.0 b.0) (nat_le x.0 y.0) a b x y e

ends_total : IsTotalOrder ends_cmp
ends_total = then_total (on_total (λ e. e.low.0) nat_cmp_total) (on_total (λ e. e.high.0) nat_cmp_total)

addr_total : IsTotalOrder addr_cmp
addr_total = on_total (λ a. a.0) nat_cmp_total

ends_exact : (x y : Ends) → is_at (ends_cmp x) y ≡ true → x ≡ y
ends_exact x y h =
    let tied : (x.low.0 == y.low.0 && x.high.0 == y.high.0) ≡ is_at (ends_cmp x) y =
    both_tied _ _ _ _ (unsigned_ties x.low.0 y.low.0) (unsigned_ties x.high.0 y.high.0) in
    let parts = and_parts (x.low.0 == y.low.0) (x.high.0 == y.high.0) (tied ∙ h) in
    let low = same_addr_true x.low y.low parts.0 in
    let high = same_addr_true x.high y.high parts.1 in
    λ i. record { low = low i; high = high i }

addr_exact : (x y : Addr) → is_at (addr_cmp x) y ≡ true → x ≡ y
addr_exact x y h = same_addr_true x y (unsigned_ties x.0 y.0 ∙ h)

-- A SESSION

-- both directions have one session
pub session_either : (c : Configuration) (a b : Addr) → has_session c a b ≡ has_session c b a
session_either c a b = ap (λ e. is_some (lookup (is_at (ends_cmp e)) c.sessions)) (ends_either a b)

some_if_up : (o : Option Bool) (g : Bool → Bool) → unwrap_or (option_map g o) false ≡ true → is_some o ≡ true
some_if_up None g h = h
some_if_up (Some b) g h = refl

-- what is up is a session
pub session_if_up : (c : Configuration) (a b : Addr) → is_up c a b ≡ true → has_session c a b ≡ true
unfolding session_up
session_if_up c a b up = some_if_up (session_between c a b) (λ enabled. enabled && is_connected c a b) up

-- NODES THAT STAY

-- an address that is there is none that is new
old_is_not_new : (c : Configuration) (a x : Addr) → has_node c a ≡ true → has_node c x ≡ false →
    is_at (addr_cmp a) x ≡ false
old_is_not_new c a x there fresh =
    false_from_ne_true (is_at (addr_cmp a) x) (λ h. true≢false (sym there ∙ ap (has_node c) (addr_exact a x h) ∙ fresh))

node_added : (c : Configuration) (a x : Addr) (n : Node) → has_node c a ≡ true → has_node c x ≡ false →
    lookup (is_at (addr_cmp a)) (insert_entry addr_cmp c.nodes x n) ≡ node_at c a
node_added c a x n there fresh = lookup_inserted addr_total a x n c.nodes
    ∙ ap (λ b. cond b (Some n) (node_at c a)) (old_is_not_new c a x there fresh)

link_keeps_nodes : (c : Configuration) (x y : Addr) (change : TheLink → TheLink) (o : Option TheLink) →
    (with_link_changed c x y change o).nodes ≡ c.nodes
link_keeps_nodes c x y change None = refl
link_keeps_nodes c x y change (Some l) = refl

rule_keeps_nodes : (c : Configuration) (x y : Addr) (side : PolicySide) (rule : Rule) →
    (with_rule_of c x y side rule).nodes ≡ c.nodes
rule_keeps_nodes c x y Import rule = refl
rule_keeps_nodes c x y Export rule = refl

clear_keeps_nodes : (c : Configuration) (x y : Addr) (side : PolicySide) → (without_rules_of c x y side).nodes ≡ c.nodes
clear_keeps_nodes c x y Import = refl
clear_keeps_nodes c x y Export = refl

-- a node that is there stays as it is
pub node_kept : (c : Configuration) (e : Edit) → Passes c e → (a : Addr) → has_node c a ≡ true →
    node_at (edited c e) a ≡ node_at c a
node_kept c (Router x n) ok a there = node_added c a x _ there ok.fresh
node_kept c (Virtual x n) ok a there = node_added c a x _ there ok.fresh
node_kept c (Metric x y m) ok a there = ap (lookup (is_at (addr_cmp a))) (link_keeps_nodes c x y _ (link_between c x y))
node_kept c (Fail x y) ok a there = ap (lookup (is_at (addr_cmp a))) (link_keeps_nodes c x y _ (link_between c x y))
node_kept c (Mend x y) ok a there = ap (lookup (is_at (addr_cmp a))) (link_keeps_nodes c x y _ (link_between c x y))
node_kept c (AddRule x y side rule) ok a there = ap (lookup (is_at (addr_cmp a))) (rule_keeps_nodes c x y side rule)
node_kept c (Clear x y side) ok a there = ap (lookup (is_at (addr_cmp a))) (clear_keeps_nodes c x y side)
node_kept c e ok a there = refl

-- SESSIONS THAT STAY

link_keeps_sessions : (c : Configuration) (x y : Addr) (change : TheLink → TheLink) (o : Option TheLink) →
    (with_link_changed c x y change o).sessions ≡ c.sessions
link_keeps_sessions c x y change None = refl
link_keeps_sessions c x y change (Some l) = refl

rule_keeps_sessions : (c : Configuration) (x y : Addr) (side : PolicySide) (rule : Rule) →
    (with_rule_of c x y side rule).sessions ≡ c.sessions
rule_keeps_sessions c x y Import rule = refl
rule_keeps_sessions c x y Export rule = refl

clear_keeps_sessions : (c : Configuration) (x y : Addr) (side : PolicySide) →
    (without_rules_of c x y side).sessions ≡ c.sessions
clear_keeps_sessions c x y Import = refl
clear_keeps_sessions c x y Export = refl

either_session : (b here : Bool) (o : Option Bool) → is_some (cond here (Some b) o) ≡ true → (here ≡ true)
    ⊎ (is_some o ≡ true)
either_session b true o h = inl refl
either_session b false o h = inr h

-- a session that is set is the one, or was there
session_set : (c : Configuration) (x y a b : Addr) (enabled : Bool) → has_session (with_session c x y enabled) a b
    ≡ true → (ends_of a b ≡ ends_of x y) ⊎ (has_session c a b ≡ true)
session_set c x y a b enabled h =
    let set : is_some (cond (is_at (ends_cmp (ends_of a b)) (ends_of x y)) (Some enabled) (session_between c a b))
    ≡ true =
    ap is_some (sym (lookup_inserted ends_total (ends_of a b) (ends_of x y) enabled c.sessions)) ∙ h in
    ⊎_elim (λ is. inl (ends_exact (ends_of a b) (ends_of x y) is)) (λ was. inr was)
    (either_session enabled (is_at (ends_cmp (ends_of a b)) (ends_of x y)) (session_between c a b) set)

not_not : (b : Bool) → not b ≡ false → b ≡ true
not_not true h = refl
not_not false h = absurd (true≢false h)

session_stays : (c : Configuration) (x y a b : Addr) (enabled : Bool) → not (has_session c x y) ≡ false →
    has_session (with_session c x y enabled) a b ≡ true → has_session c a b ≡ true
session_stays c x y a b enabled ok h =
    ⊎_elim (λ is. ap (λ z. is_some (lookup (is_at (ends_cmp z)) c.sessions)) is ∙ not_not (has_session c x y) ok)
    (λ was. was) (session_set c x y a b enabled h)

-- the edit joins the two
abbrev pub Joins : Edit → Addr → Addr → Type 0
Joins e a b = (x : Addr) × (y : Addr) × (e ≡ Join x y) × ArePair a b x y

abbrev OldOrNew : Configuration → Edit → Addr → Addr → Type 0
OldOrNew c e a b = (has_session c a b ≡ true) ⊎ Joins e a b

kept_sessions : (c : Configuration) (es : List (Ends × Bool)) (a b : Addr) → es ≡ c.sessions →
    is_some (lookup (is_at (ends_cmp (ends_of a b))) es) ≡ true → has_session c a b ≡ true
kept_sessions c es a b same h = ap (λ fs. is_some (lookup (is_at (ends_cmp (ends_of a b))) fs)) (sym same) ∙ h

-- each session was there, or is what the edit joins
pub session_old_or_new : (c : Configuration) (e : Edit) → Passes c e → (a b : Addr) →
    has_session (edited c e) a b ≡ true → OldOrNew c e a b
session_old_or_new c (Metric x y m) ok a b h =
    inl (kept_sessions c _ a b (link_keeps_sessions c x y _ (link_between c x y)) h)
session_old_or_new c (Fail x y) ok a b h =
    inl (kept_sessions c _ a b (link_keeps_sessions c x y _ (link_between c x y)) h)
session_old_or_new c (Mend x y) ok a b h =
    inl (kept_sessions c _ a b (link_keeps_sessions c x y _ (link_between c x y)) h)
session_old_or_new c (Join x y) ok a b h = ⊎_elim (λ is. inr (x, y, refl, pair_from_ends a b x y is)) (λ was. inl was)
    (session_set c x y a b true h)
session_old_or_new c (Stop x y) ok a b h = inl (session_stays c x y a b false ok.session h)
session_old_or_new c (Start x y) ok a b h = inl (session_stays c x y a b true ok.session h)
session_old_or_new c (AddRule x y side rule) ok a b h =
    inl (kept_sessions c _ a b (rule_keeps_sessions c x y side rule) h)
session_old_or_new c (Clear x y side) ok a b h = inl (kept_sessions c _ a b (clear_keeps_sessions c x y side) h)
session_old_or_new c e ok a b h = inl h

-- a session stays

still_some : (b here : Bool) (o : Option Bool) → is_some o ≡ true → is_some (cond here (Some b) o) ≡ true
still_some b true o h = refl
still_some b false o h = h

session_put : (c : Configuration) (x y a b : Addr) (enabled : Bool) → has_session c a b ≡ true →
    has_session (with_session c x y enabled) a b ≡ true
session_put c x y a b enabled h =
    ap is_some (lookup_inserted ends_total (ends_of a b) (ends_of x y) enabled c.sessions)
    ∙ still_some enabled (is_at (ends_cmp (ends_of a b)) (ends_of x y)) (session_between c a b) h

same_sessions : (c : Configuration) (es : List (Ends × Bool)) (a b : Addr) → es ≡ c.sessions →
    has_session c a b ≡ true → is_some (lookup (is_at (ends_cmp (ends_of a b))) es) ≡ true
same_sessions c es a b same h = ap (λ fs. is_some (lookup (is_at (ends_cmp (ends_of a b))) fs)) same ∙ h

-- no session is removed
pub session_kept : (c : Configuration) (e : Edit) (a b : Addr) → has_session c a b ≡ true →
    has_session (edited c e) a b ≡ true
session_kept c (Metric x y m) a b h = same_sessions c _ a b (link_keeps_sessions c x y _ (link_between c x y)) h
session_kept c (Fail x y) a b h = same_sessions c _ a b (link_keeps_sessions c x y _ (link_between c x y)) h
session_kept c (Mend x y) a b h = same_sessions c _ a b (link_keeps_sessions c x y _ (link_between c x y)) h
session_kept c (Join x y) a b h = session_put c x y a b true h
session_kept c (Stop x y) a b h = session_put c x y a b false h
session_kept c (Start x y) a b h = session_put c x y a b true h
session_kept c (AddRule x y side rule) a b h = same_sessions c _ a b (rule_keeps_sessions c x y side rule) h
session_kept c (Clear x y side) a b h = same_sessions c _ a b (clear_keeps_sessions c x y side) h
session_kept c e a b h = h

-- NO SESSION WITH ITSELF

one_end : (a x y : Addr) → ArePair a a x y → same_addr x y ≡ true
one_end a x y (inl same) = (λ i. same_addr (sym same.0 i) (sym same.1 i)) ∙ same_addr_itself a
one_end a x y (inr same) = (λ i. same_addr (sym same.1 i) (sym same.0 i)) ∙ same_addr_itself a

not_one : (e : Edit) (a : Addr) → has_one_end e ≡ false → Joins e a a → ⊥
not_one e a two (x, y, is, pair) = true≢false (sym (one_end a x y pair) ∙ ap has_one_end (sym is) ∙ two)

-- no router has a session with itself
pub none_alone : (c : Configuration) (e : Edit) → Passes c e → ((a : Addr) → has_session c a a ≡ false) → (a : Addr) →
    has_session (edited c e) a a ≡ false
none_alone c e ok none a =
    false_from_ne_true (has_session (edited c e) a a)
    (λ h. ⊎_elim (λ was. true≢false (sym was ∙ none a)) (not_one e a ok.two) (session_old_or_new c e ok a a h))

-- THE AS OF A NODE

same_either : (m n : Option ℕ) → same_number m n ≡ same_number n m
same_either None None = refl
same_either None (Some n) = refl
same_either (Some m) None = refl
same_either (Some m) (Some n) = nat_eq_equiv.symm m n

-- two are in different ASes in both orders
pub external_either : (c : Configuration) (a b : Addr) → is_external c a b ≡ is_external c b a
external_either c a b = ap not (same_either (as_of c a) (as_of c b))

pub same_numbers : (m n : Option ℕ) → same_number m n ≡ true → m ≡ n
same_numbers None None h = refl
same_numbers (Some m) (Some n) h = ap Some ((unsigned_Decides m n).0 h)
same_numbers None (Some n) h = absurd (true≢false (sym h))
same_numbers (Some m) None h = absurd (true≢false (sym h))

-- two that are not in different ASes are in one
pub one_as : (c : Configuration) (a b : Addr) → is_external c a b ≡ false → as_of c a ≡ as_of c b
one_as c a b internal = same_numbers (as_of c a) (as_of c b) (not-false (same_number (as_of c a) (as_of c b)) internal)

pub as_kept : (c : Configuration) (e : Edit) → Passes c e → (a : Addr) → has_node c a ≡ true →
    as_of (edited c e) a ≡ as_of c a
as_kept c e ok a here = ap (option_map (λ n. n.asn)) (node_kept c e ok a here)

pub external_kept : (c : Configuration) (e : Edit) → Passes c e → (a b : Addr) → has_node c a ≡ true →
    has_node c b ≡ true → is_external (edited c e) a b ≡ is_external c a b
external_kept c e ok a b here there = λ i. not (same_number (as_kept c e ok a here i) (as_kept c e ok b there i))

pub there_still : (c : Configuration) (e : Edit) → Passes c e → (a : Addr) → has_node c a ≡ true →
    has_node (edited c e) a ≡ true
there_still c e ok a here = ap is_some (node_kept c e ok a here) ∙ here
