-- What an edit that is not refused makes of nodes, sessions and origins.
use Rattle.std.proofs.Common.{◌≡◌, ◌⊎◌, inl, inr, ℕ, Bool, true, false, cond, not, ◌&&◌, ◌||◌, ◌==◌, nat_le, List, [], ◌∷◌, Option, Some, None, is_some, if◌then◌else◌, refl, sym, ap, ◌∙◌, subst, arith}
use Rattle.std.proofs.lemmas.Bool.{true≢false, false_from_ne_true}
use Rattle.std.proofs.lemmas.Bool.Decides.{nat_tests}
use Rattle.std.proofs.lemmas.Map.Lookups.{CmpEqualImpliesEq, exact_pairs}
use Rattle.std.proofs.lemmas.Map.Views.{Contains-keys_from_lookup}
use Rattle.std.proofs.lemmas.List.Elements.{All-contains}
use Rattle.std.specs.declared.cmp.Ordering.{Ordering}
use Rattle.std.specs.declared.cmp.Ordering.TheVariants.{Less, Equal, Greater}
use Rattle.std.specs.Ordering.{match_ordering, is_eq}
use Rattle.std.specs.Cmp.{unsigned_ties, both_tied}
use Rattle.std.specs.List.{AllByRecursion, list_any}
use Rattle.std.specs.Map.{lookup, keys_of}
use Rattle.std.specs.Set.{remove_key}
use Rattle.std.specs.BTreeMap.{is_at, insert_entry}
use Rattle.std.specs.BTreeSet.{insert_key}
use Rattle.net_prefix.specs.declared.addr.Addr.{Addr}
use Rattle.net_prefix.specs.Address.{same_addr, addr_cmp}
use Rattle.net_prefix.specs.Prefix.{Prefix, prefix_cmp}
use Rattle.net_prefix.specs.Orders.{addr_exact, prefix_exact}
use Rattle.route_policy.specs.declared.rule.Rule.{Rule}
use Rattle.net_conf.specs.declared.tables.Ends.{Ends}
use Rattle.net_conf.specs.declared.tables.Link.{Link as TheLink}
use Rattle.net_conf.specs.declared.tables.Node.{Node}
use Rattle.net_conf.specs.declared.tables.Origination.{Origination}
use Rattle.net_conf.specs.declared.tables.PolicySide.{PolicySide}
use Rattle.net_conf.specs.declared.tables.PolicySide.TheVariants.{Import, Export}
use Rattle.net_conf.specs.declared.edit.Edit.{Edit}
use Rattle.net_conf.specs.declared.edit.Edit.TheVariants.{Router, Virtual, Metric, Fail, Mend, Join, Stop, Start, Rule as AddRule, Clear, Origin, NoOrigin}
use Rattle.net_conf.specs.declared.refusal.Refusal.{Refusal}
use Rattle.net_conf.specs.Configuration.{Configuration, node_at, has_node, ends_of, ends_cmp, link_between, has_session, originates, origination_cmp}
use Rattle.net_conf.specs.Configured.{HasEnds, IsConfigured}
use Rattle.net_conf.specs.Edits.{first_of, tests_of, refusal_of, edited, lacks_node, repeats_node, has_one_end, lacks_session, repeats_session, with_link_changed, with_rule_of, without_rules_of}
use Rattle.net_conf.proofs.KeptTrees.{equal_when, same_ends}
use Rattle.cell_engine.proofs.Sites.{ends_either}

-- KEYS AND ENTRIES PUT IN

or_swapped : (a b c : Bool) → (a || (b || c)) ≡ (b || (a || c))
or_swapped true true c = refl
or_swapped true false c = refl
or_swapped false b c = refl

or_again : (a b : Bool) → (a || b) ≡ (a || (a || b))
or_again true b = refl
or_again false b = refl

some_cond : {X : Type 0} (b : Bool) (x : X) (o : Option X) → is_some (cond b (Some x) o) ≡ (b || is_some o)
some_cond true x o = refl
some_cond false x o = refl

module _ {K : Type 0} {cmp : K → K → Ordering} (exact : CmpEqualImpliesEq cmp) (test : K → Bool) where
  -- what a test finds once a key is put in
  pub any_inserted : (k : K) (xs : List K) → list_any test (insert_key cmp xs k) ≡ (test k || list_any test xs)
  any_inserted k [] = refl
  any_inserted k (x ∷ xs) =
      elim (cmp k x) as (λ r. cmp k x ≡ r →
      list_any test (match_ordering r (k ∷ x ∷ xs) (x ∷ xs) (x ∷ insert_key cmp xs k))
      ≡ (test k || (test x || list_any test xs))) [
        | Less ↦ λ is. refl
        | Equal ↦ λ is. or_again (test x) (list_any test xs)
            ∙ ap (λ y. test y || (test x || list_any test xs)) (sym (exact k x is))
        | Greater ↦ λ is. ap (λ b. test x || b) (any_inserted k xs) ∙ or_swapped (test x) (test k) (list_any test xs)
      ] refl

  module _ {X : Type 0} (k : K) (v : X) where
    some_inserted : (es : List (K × X)) → is_some (lookup test (insert_entry cmp es k v))
        ≡ (test k || is_some (lookup test es))
    some_inserted [] = some_cond (test k) v None
    some_inserted (e ∷ es) =
        elim (cmp k e.0) as (λ r. cmp k e.0 ≡ r →
        is_some (lookup test (match_ordering r ((k, v) ∷ e ∷ es) ((e.0, v) ∷ es) (e ∷ insert_entry cmp es k v)))
        ≡ (test k || is_some (lookup test (e ∷ es)))) [
          | Less ↦ λ is. some_cond (test k) v (lookup test (e ∷ es))
          | Equal ↦ λ is.
              some_cond (test e.0) v (lookup test es)
              ∙ or_again (test e.0) (is_some (lookup test es))
              ∙ (λ i. test (sym (exact k e.0 is) i) || sym (some_cond (test e.0) e.1 (lookup test es)) i)
          | Greater ↦ λ is.
              some_cond (test e.0) e.1 (lookup test (insert_entry cmp es k v))
              ∙ ap (λ b. test e.0 || b) (some_inserted es)
              ∙ or_swapped (test e.0) (test k) (is_some (lookup test es))
              ∙ ap (λ b. test k || b) (sym (some_cond (test e.0) e.1 (lookup test es)))
        ] refl

    lookup_other : test k ≡ false → (es : List (K × X)) → lookup test (insert_entry cmp es k v) ≡ lookup test es
    lookup_other off [] = ap (λ b. cond b (Some v) None) off
    lookup_other off (e ∷ es) =
        elim (cmp k e.0) as (λ r. cmp k e.0 ≡ r →
        lookup test (match_ordering r ((k, v) ∷ e ∷ es) ((e.0, v) ∷ es) (e ∷ insert_entry cmp es k v))
        ≡ lookup test (e ∷ es)) [
          | Less ↦ λ is. ap (λ b. cond b (Some v) (lookup test (e ∷ es))) off
          | Equal ↦ λ is.
              let here : test e.0 ≡ false = ap test (sym (exact k e.0 is)) ∙ off in
              ap (λ b. cond b (Some v) (lookup test es)) here ∙ sym (ap (λ b. cond b (Some e.1) (lookup test es)) here)
          | Greater ↦ λ is. ap (cond (test e.0) (Some e.1)) (lookup_other off es)
        ] refl

or_true : (b c : Bool) → c ≡ true → (b || c) ≡ true
or_true true c h = refl
or_true false c h = h

-- what a test finds once a key was taken out was there
any_removed : {K : Type 0} (test out : K → Bool) (xs : List K) → list_any test (remove_key out xs) ≡ true →
    list_any test xs ≡ true
any_removed test out [] h = h
any_removed test out (x ∷ xs) h =
    elim (out x) as (λ b. list_any test (cond b xs (x ∷ remove_key out xs)) ≡ true →
    (test x || list_any test xs) ≡ true) [
      | true ↦ λ there. or_true (test x) (list_any test xs) there
      | false ↦ λ there. elim (test x) as (λ b. (b || list_any test (remove_key out xs)) ≡ true →
          (b || list_any test xs) ≡ true) [ true ↦ λ _. refl | false ↦ λ later. any_removed test out xs later ] there
    ] h

-- WHAT IS NOT REFUSED

some_none : (r : Refusal) → Some r ≡ None → ⊥
some_none r e = cc

passed : (b : Bool) (r : Refusal) (ts : List (Bool × Refusal)) → first_of ((b, r) ∷ ts) ≡ None → (b ≡ false)
    × (first_of ts ≡ None)
passed false r ts none = (refl, none)
passed true r ts none = absurd (some_none r none)

-- each test of a list without a first one fails
all_fail : (ts : List (Bool × Refusal)) → first_of ts ≡ None → AllByRecursion (λ t. t.0 ≡ false) ts
all_fail [] none = tt
all_fail ((b, r) ∷ ts) none = let rest = passed b r ts none in (rest.0, all_fail ts rest.1)

-- tests that do not hold of an edit that is not refused
pub record Passes (c : Configuration) (e : Edit) : Type 0 where
  pub nodes : lacks_node c e ≡ false
  pub fresh : repeats_node c e ≡ false
  pub two : has_one_end e ≡ false
  pub session : lacks_session c e ≡ false
  pub apart : repeats_session c e ≡ false

pub passes : (c : Configuration) (e : Edit) → refusal_of c e ≡ None → Passes c e
unfolding refusal_of
passes c e none =
    let t = all_fail (tests_of c e) none in
    record { nodes = t.0; fresh = t.1.0; two = t.1.1.0; session = t.1.1.1.1.1.1.1.1.0; apart = t.1.1.1.1.1.1.1.1.1.0 }

-- THE PARTS OF A CONFIGURATION THAT STAY

-- what some edits leave alone
record Leaves (c d : Configuration) : Type 0 where
  nodes : d.nodes ≡ c.nodes
  sessions : d.sessions ≡ c.sessions
  origins : d.origins ≡ c.origins

link_leaves : (c : Configuration) (x y : Addr) (change : TheLink → TheLink) (o : Option TheLink) →
    Leaves c (with_link_changed c x y change o)
link_leaves c x y change None = record { nodes = refl; sessions = refl; origins = refl }
link_leaves c x y change (Some l) = record { nodes = refl; sessions = refl; origins = refl }

rule_leaves : (c : Configuration) (x y : Addr) (side : PolicySide) (rule : Rule) →
    Leaves c (with_rule_of c x y side rule)
rule_leaves c x y Import rule = record { nodes = refl; sessions = refl; origins = refl }
rule_leaves c x y Export rule = record { nodes = refl; sessions = refl; origins = refl }

clear_leaves : (c : Configuration) (x y : Addr) (side : PolicySide) → Leaves c (without_rules_of c x y side)
clear_leaves c x y Import = record { nodes = refl; sessions = refl; origins = refl }
clear_leaves c x y Export = record { nodes = refl; sessions = refl; origins = refl }

-- NODES

-- an address that is there is none that is new
old_is_not_new : (c : Configuration) (a x : Addr) → has_node c a ≡ true → has_node c x ≡ false →
    is_at (addr_cmp a) x ≡ false
old_is_not_new c a x there fresh =
    false_from_ne_true (is_at (addr_cmp a) x)
    (λ h. true≢false (sym there ∙ ap (has_node c) (addr_exact a x (equal_when (addr_cmp a x) h)) ∙ fresh))

node_added : (c : Configuration) (a x : Addr) (n : Node) → has_node c a ≡ true → has_node c x ≡ false →
    lookup (is_at (addr_cmp a)) (insert_entry addr_cmp c.nodes x n) ≡ node_at c a
node_added c a x n there fresh = lookup_other addr_exact (is_at (addr_cmp a)) x n
    (old_is_not_new c a x there fresh) c.nodes

same_node : (c d : Configuration) (a : Addr) → Leaves c d → node_at d a ≡ node_at c a
same_node c d a leaves = ap (lookup (is_at (addr_cmp a))) leaves.nodes

-- a node that is there stays as it is
pub node_kept : (c : Configuration) (e : Edit) → Passes c e → (a : Addr) → has_node c a ≡ true →
    node_at (edited c e) a ≡ node_at c a
node_kept c (Router x n) ok a there = node_added c a x _ there ok.fresh
node_kept c (Virtual x n) ok a there = node_added c a x _ there ok.fresh
node_kept c (Metric x y m) ok a there = same_node c _ a (link_leaves c x y _ (link_between c x y))
node_kept c (Fail x y) ok a there = same_node c _ a (link_leaves c x y _ (link_between c x y))
node_kept c (Mend x y) ok a there = same_node c _ a (link_leaves c x y _ (link_between c x y))
node_kept c (AddRule x y side rule) ok a there = same_node c _ a (rule_leaves c x y side rule)
node_kept c (Clear x y side) ok a there = same_node c _ a (clear_leaves c x y side)
node_kept c e ok a there = refl

-- SESSIONS

-- the edit joins the two, in one order or the other
abbrev pub joins : Edit → Addr → Addr → Bool
joins (Join a b) f t = is_at (ends_cmp (ends_of f t)) (ends_of a b)
joins _ f t = false

ends_exact : CmpEqualImpliesEq ends_cmp
ends_exact x y is = same_ends x y (ap is_eq is)

same_session : (c d : Configuration) (f t : Addr) → Leaves c d → has_session d f t ≡ has_session c f t
same_session c d f t leaves = ap (λ es. is_some (lookup (is_at (ends_cmp (ends_of f t))) es)) leaves.sessions

not_not : (b : Bool) → not b ≡ false → b ≡ true
not_not true h = refl
not_not false h = absurd (true≢false h)

-- a session that is set again was there
set_again : (c : Configuration) (x y f t : Addr) (enabled : Bool) → not (has_session c x y) ≡ false →
    is_some (lookup (is_at (ends_cmp (ends_of f t))) (insert_entry ends_cmp c.sessions (ends_of x y) enabled))
    ≡ has_session c f t
set_again c x y f t enabled ok =
    some_inserted ends_exact (is_at (ends_cmp (ends_of f t))) (ends_of x y) enabled c.sessions
    ∙ by (is_at (ends_cmp (ends_of f t)) (ends_of x y)) refl where
      by : (b : Bool) → is_at (ends_cmp (ends_of f t)) (ends_of x y) ≡ b → (b || has_session c f t) ≡ has_session c f t
      by true is = sym (ap (λ es. is_some (lookup (is_at (ends_cmp es)) c.sessions))
          (same_ends (ends_of f t) (ends_of x y) is) ∙ not_not (has_session c x y) ok)
      by false is = refl

-- the sessions after the edit: those that were there, and what it joins
pub session_edited : (c : Configuration) (e : Edit) → Passes c e → (f t : Addr) →
    has_session (edited c e) f t ≡ (joins e f t || has_session c f t)
session_edited c (Metric x y m) ok f t = same_session c _ f t (link_leaves c x y _ (link_between c x y))
session_edited c (Fail x y) ok f t = same_session c _ f t (link_leaves c x y _ (link_between c x y))
session_edited c (Mend x y) ok f t = same_session c _ f t (link_leaves c x y _ (link_between c x y))
session_edited c (Join x y) ok f t = some_inserted ends_exact (is_at (ends_cmp (ends_of f t)))
    (ends_of x y) true c.sessions
session_edited c (Stop x y) ok f t = set_again c x y f t false ok.session
session_edited c (Start x y) ok f t = set_again c x y f t true ok.session
session_edited c (AddRule x y side rule) ok f t = same_session c _ f t (rule_leaves c x y side rule)
session_edited c (Clear x y side) ok f t = same_session c _ f t (clear_leaves c x y side)
session_edited c e ok f t = refl

-- both directions have one session
pub session_either : (c : Configuration) (a b : Addr) → has_session c a b ≡ has_session c b a
session_either c a b = ap (λ e. is_some (lookup (is_at (ends_cmp e)) c.sessions)) (ends_either a b)

-- two pairs are one, in one order or the other
pair_numbers : (f t a b : ℕ) →
    (cond (nat_le f t) f t == cond (nat_le a b) a b && cond (nat_le f t) t f == cond (nat_le a b) b a)
    ≡ ((f == a && t == b) || (f == b && t == a))
pair_numbers f t a b = grind (arith, nat_tests)

pub same_pair : (f t a b : Addr) → is_at (ends_cmp (ends_of f t)) (ends_of a b)
    ≡ ((same_addr f a && same_addr t b) || (same_addr f b && same_addr t a))
same_pair f t a b =
    sym (both_tied _ _ _ _ (unsigned_ties (ends_of f t).low.0 (ends_of a b).low.0)
    (unsigned_ties (ends_of f t).high.0 (ends_of a b).high.0))
    ∙ numbers (nat_le f.0 t.0) (nat_le a.0 b.0)
    ∙ pair_numbers f.0 t.0 a.0 b.0
  where
    pair : Bool → Addr → Addr → Ends
    pair s x y = if s then record { low = x; high = y } else record { low = y; high = x }

    numbers : (s u : Bool) → ((pair s f t).low.0 == (pair u a b).low.0 && (pair s f t).high.0 == (pair u a b).high.0)
        ≡ (cond s f.0 t.0 == cond u a.0 b.0 && cond s t.0 f.0 == cond u b.0 a.0)
    numbers true true = refl
    numbers true false = refl
    numbers false true = refl
    numbers false false = refl

-- NODES AT THE ENDS

low_there : (c : Configuration) (f t : Addr) (s : Bool) →
    HasEnds c (if s then record { low = f; high = t } else record { low = t; high = f }) → has_node c f ≡ true
low_there c f t true there = there.0
low_there c f t false there = there.1

ends_there : (c : Configuration) (a b : Addr) (s : Bool) → has_node c a ≡ true → has_node c b ≡ true →
    HasEnds c (if s then record { low = a; high = b } else record { low = b; high = a })
ends_there c a b true first second = (first, second)
ends_there c a b false first second = (second, first)

both_there : (p q : Bool) → not (p && q) ≡ false → (p ≡ true) × (q ≡ true)
both_there true true h = (refl, refl)
both_there true false h = absurd (true≢false h)
both_there false q h = absurd (true≢false h)

pub session_placed : (c : Configuration) → IsConfigured c → (f t : Addr) → has_session c f t ≡ true →
    has_node c f ≡ true
session_placed c configured f t is =
    low_there c f t (nat_le f.0 t.0)
    (All-contains (HasEnds c) (keys_of c.sessions) (ends_of f t) configured.session_ends
    (Contains-keys_from_lookup {eq = λ x. is_at (ends_cmp x)} same_ends (ends_of f t) c.sessions is))

joined_placed : (c : Configuration) (e : Edit) → Passes c e → (f t : Addr) → joins e f t ≡ true → has_node c f ≡ true
joined_placed c (Join a b) ok f t is =
    let there = both_there (has_node c a) (has_node c b) ok.nodes in
    low_there c f t (nat_le f.0 t.0) (subst (HasEnds c) (sym (same_ends (ends_of f t) (ends_of a b) is))
    (ends_there c a b (nat_le a.0 b.0) there.0 there.1))
joined_placed c e ok f t is = absurd (true≢false (sym is))

-- who has a session after the edit was there before it
pub placed_before : (c : Configuration) → IsConfigured c → (e : Edit) → Passes c e → (f t : Addr) →
    has_session (edited c e) f t ≡ true → has_node c f ≡ true
placed_before c configured e ok f t is = by (joins e f t) refl (sym (session_edited c e ok f t) ∙ is) where
  by : (b : Bool) → joins e f t ≡ b → (b || has_session c f t) ≡ true → has_node c f ≡ true
  by true joined h = joined_placed c e ok f t joined
  by false joined h = session_placed c configured f t h

-- ORIGINS

-- the edit makes the router originate the prefix
abbrev pub adds : Edit → Addr → Prefix → Bool
adds (Origin a q) r p = is_at (origination_cmp (record { router = r; prefix = p })) (record { router = a; prefix = q })
adds _ r p = false

pub origin_exact : CmpEqualImpliesEq origination_cmp
origin_exact x y is =
    let origin : Addr × Prefix → Origination = λ parts. record { router = parts.0; prefix = parts.1 } in
    ap origin (exact_pairs addr_cmp prefix_cmp addr_exact prefix_exact (x.router, x.prefix) (y.router, y.prefix) is)

either : (b c : Bool) → (b || c) ≡ true → (b ≡ true) ⊎ (c ≡ true)
either true c h = inl refl
either false c h = inr h

abbrev OldOrNew : Configuration → Edit → Addr → Prefix → Type 0
OldOrNew c e r p = (adds e r p ≡ true) ⊎ (originates c r p ≡ true)

same_origin : (c d : Configuration) (r : Addr) (p : Prefix) → Leaves c d → originates d r p ≡ true →
    originates c r p ≡ true
same_origin c d r p leaves h = ap (list_any (is_at (origination_cmp (record { router = r; prefix = p }))))
    (sym leaves.origins) ∙ h

-- each origin was there, or is what the edit adds
pub origin_old_or_new : (c : Configuration) (e : Edit) (r : Addr) (p : Prefix) → originates (edited c e) r p ≡ true →
    OldOrNew c e r p
origin_old_or_new c (Metric x y m) r p h = inr (same_origin c _ r p (link_leaves c x y _ (link_between c x y)) h)
origin_old_or_new c (Fail x y) r p h = inr (same_origin c _ r p (link_leaves c x y _ (link_between c x y)) h)
origin_old_or_new c (Mend x y) r p h = inr (same_origin c _ r p (link_leaves c x y _ (link_between c x y)) h)
origin_old_or_new c (AddRule x y side rule) r p h = inr (same_origin c _ r p (rule_leaves c x y side rule) h)
origin_old_or_new c (Clear x y side) r p h = inr (same_origin c _ r p (clear_leaves c x y side) h)
origin_old_or_new c (Origin a q) r p h =
    let test : Origination → Bool = is_at (origination_cmp (record { router = r; prefix = p })) in
    either (test (record { router = a; prefix = q })) (list_any test c.origins)
    (sym (any_inserted origin_exact test (record { router = a; prefix = q }) c.origins) ∙ h)
origin_old_or_new c (NoOrigin a q) r p h =
    inr (any_removed (is_at (origination_cmp (record { router = r; prefix = p })))
    (is_at (origination_cmp (record { router = a; prefix = q }))) c.origins h)
origin_old_or_new c e r p h = inr h
