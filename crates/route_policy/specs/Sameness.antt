-- Whether two policies are the same, rule by rule.
use Rattle.std.specs.Prelude.{Bool, true, false, ◌&&◌, ◌==◌, List}
use Rattle.std.specs.Cmp.Lexicographic.{pointwise}
use Rattle.net_prefix.specs.Prefix.{same_prefix}
use Rattle.path_attr.specs.Number.{same_number}
use Rattle.route_policy.specs.declared.rule.Match.{Match}
use Rattle.route_policy.specs.declared.rule.Match.TheVariants.{Any, Is, Under, Path, First, Comm}
use Rattle.route_policy.specs.declared.rule.Settings.{Settings}
use Rattle.route_policy.specs.declared.rule.Action.{Action}
use Rattle.route_policy.specs.declared.rule.Action.TheVariants.{Deny, Permit}
use Rattle.route_policy.specs.declared.rule.Rule.{Rule}

abbrev pub same_match : Match → Match → Bool
same_match Any Any = true
same_match (Is p) (Is q) = same_prefix p q
same_match (Under p) (Under q) = same_prefix p q
same_match (Path m) (Path n) = m == n
same_match (First m) (First n) = m == n
same_match (Comm m) (Comm n) = m == n
same_match _ _ = false

abbrev pub same_settings : Settings → Settings → Bool
same_settings s t = same_number s.pref t.pref
    && (same_number s.med t.med && (same_number s.prepend t.prepend && same_number s.add t.add))

abbrev pub same_action : Action → Action → Bool
same_action Deny Deny = true
same_action (Permit s) (Permit t) = same_settings s t
same_action _ _ = false

abbrev pub same_rule : Rule → Rule → Bool
same_rule r s = same_match r.cond s.cond && same_action r.act s.act

abbrev pub same_policy : List Rule → List Rule → Bool
same_policy rules others = pointwise same_rule rules others
