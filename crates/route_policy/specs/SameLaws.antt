-- The test of sameness tells exactly whether two policies are equal. No public contract cites this file; the laws of ==
-- do.
use Rattle.std.specs.Prelude.{◌≡◌, ℕ, Bool, true, ◌&&◌, ◌==◌, Option, Some, None, refl}
use Rattle.std.proofs.Common.{ap, sym, subst}
use Rattle.std.proofs.lemmas.Bool.{true≢false}
use Rattle.std.specs.Cmp.{IsPartialEquivalence, unsigned_Decides, partial_equiv_from_equiv, decided, first_so, second_so}
use Rattle.net_prefix.specs.Prefix.{Prefix, same_prefix}
use Rattle.path_attr.specs.Number.{same_number}
use Rattle.path_attr.specs.Sameness.{IsExact, lists_exact}
use Rattle.route_policy.specs.declared.rule.Match.{Match}
use Rattle.route_policy.specs.declared.rule.Match.TheVariants.{Any, Is, Under, Path, First, Comm}
use Rattle.route_policy.specs.declared.rule.Settings.{Settings}
use Rattle.route_policy.specs.declared.rule.Action.{Action}
use Rattle.route_policy.specs.declared.rule.Action.TheVariants.{Deny, Permit}
use Rattle.route_policy.specs.declared.rule.Rule.{Rule}
use Rattle.route_policy.specs.Sameness.{same_match, same_settings, same_action, same_rule, same_policy}

both_true : (p q : Bool) → p ≡ true → q ≡ true → (p && q) ≡ true
both_true p q h g = λ i. h i && g i

number_itself : (n : ℕ) → (n == n) ≡ true
number_itself n = (unsigned_Decides n n).1 refl

prefix_true : (p q : Prefix) → same_prefix p q ≡ true → p ≡ q
prefix_true p q h =
    let address = (unsigned_Decides p.addr.0 q.addr.0).0 (first_so (p.addr.0 == q.addr.0) (p.len == q.len) h) in
    let length = (unsigned_Decides p.len q.len).0 (second_so (p.addr.0 == q.addr.0) (p.len == q.len) h) in
    λ i. record { addr = record { 0 = address i }; len = length i }

prefix_itself : (p : Prefix) → same_prefix p p ≡ true
prefix_itself p = both_true _ _ (number_itself p.addr.0) (number_itself p.len)

maybe_number_true : (m n : Option ℕ) → same_number m n ≡ true → m ≡ n
maybe_number_true None None h = refl
maybe_number_true (Some m) (Some n) h = ap Some ((unsigned_Decides m n).0 h)
maybe_number_true None (Some n) h = absurd (true≢false (sym h))
maybe_number_true (Some m) None h = absurd (true≢false (sym h))

maybe_number_itself : (m : Option ℕ) → same_number m m ≡ true
maybe_number_itself None = refl
maybe_number_itself (Some m) = number_itself m

match_true : (m n : Match) → same_match m n ≡ true → m ≡ n
match_true Any Any h = refl
match_true (Is p) (Is q) h = ap Is (prefix_true p q h)
match_true (Under p) (Under q) h = ap Under (prefix_true p q h)
match_true (Path m) (Path n) h = ap Path ((unsigned_Decides m n).0 h)
match_true (First m) (First n) h = ap First ((unsigned_Decides m n).0 h)
match_true (Comm m) (Comm n) h = ap Comm ((unsigned_Decides m n).0 h)
match_true _ _ h = absurd (true≢false (sym h))

match_itself : (m : Match) → same_match m m ≡ true
match_itself Any = refl
match_itself (Is p) = prefix_itself p
match_itself (Under p) = prefix_itself p
match_itself (Path n) = number_itself n
match_itself (First n) = number_itself n
match_itself (Comm n) = number_itself n

settings_true : (s t : Settings) → same_settings s t ≡ true → s ≡ t
settings_true s t h =
    let three = second_so (same_number s.pref t.pref)
    (same_number s.med t.med && (same_number s.prepend t.prepend && same_number s.add t.add)) h in
    let two = second_so (same_number s.med t.med) (same_number s.prepend t.prepend && same_number s.add t.add) three in
    let prefs = maybe_number_true s.pref t.pref
    (first_so (same_number s.pref t.pref)
    (same_number s.med t.med && (same_number s.prepend t.prepend && same_number s.add t.add)) h) in
    let meds = maybe_number_true s.med t.med
    (first_so (same_number s.med t.med) (same_number s.prepend t.prepend && same_number s.add t.add) three) in
    let prepends = maybe_number_true s.prepend t.prepend
    (first_so (same_number s.prepend t.prepend) (same_number s.add t.add) two) in
    let adds = maybe_number_true s.add t.add
    (second_so (same_number s.prepend t.prepend) (same_number s.add t.add) two) in
    λ i. record { pref = prefs i; med = meds i; prepend = prepends i; add = adds i }

settings_itself : (s : Settings) → same_settings s s ≡ true
settings_itself s =
    both_true _ _ (maybe_number_itself s.pref)
    (both_true _ _ (maybe_number_itself s.med)
    (both_true _ _ (maybe_number_itself s.prepend) (maybe_number_itself s.add)))

action_true : (a b : Action) → same_action a b ≡ true → a ≡ b
action_true Deny Deny h = refl
action_true (Permit s) (Permit t) h = ap Permit (settings_true s t h)
action_true _ _ h = absurd (true≢false (sym h))

action_itself : (a : Action) → same_action a a ≡ true
action_itself Deny = refl
action_itself (Permit s) = settings_itself s

rule_true : (r s : Rule) → same_rule r s ≡ true → r ≡ s
rule_true r s h =
    let conds = match_true r.cond s.cond (first_so (same_match r.cond s.cond) (same_action r.act s.act) h) in
    let acts = action_true r.act s.act (second_so (same_match r.cond s.cond) (same_action r.act s.act) h) in
    λ i. record { cond = conds i; act = acts i }

rule_itself : (r : Rule) → same_rule r r ≡ true
rule_itself r = both_true _ _ (match_itself r.cond) (action_itself r.act)

rules_exact : IsExact same_rule
rules_exact r s = (rule_true r s, λ e. subst (λ t. same_rule r t ≡ true) e (rule_itself r))

pub policies_exact : IsExact same_policy
policies_exact = lists_exact rules_exact

pub policy_per : IsPartialEquivalence same_policy
policy_per = partial_equiv_from_equiv (decided same_policy policies_exact)
