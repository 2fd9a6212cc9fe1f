-- What comparisons answer.
use Rattle.std.proofs.Common.{◌≡◌, ◌&&◌, List, [], ◌∷◌, refl}
use Rattle.std.specs.Cmp.Lexicographic.{pointwise}
use Rattle.route_policy.specs.contracts.rule.MatchPartialEq.TheImpl.{eq-value as match_eq}
use Rattle.route_policy.specs.contracts.rule.SettingsPartialEq.TheImpl.{eq-value as settings_eq}
use Rattle.route_policy.specs.contracts.rule.ActionPartialEq.TheImpl.{eq-value as action_eq}
use Rattle.route_policy.specs.contracts.rule.RulePartialEq.TheImpl.{eq-value as rule_eq}
use Rattle.route_policy.specs.declared.rule.Match.{Match}
use Rattle.route_policy.specs.declared.rule.Match.TheVariants.{Any, Is, Under, Path, First, Comm}
use Rattle.route_policy.specs.declared.rule.Settings.{Settings}
use Rattle.route_policy.specs.declared.rule.Action.{Action}
use Rattle.route_policy.specs.declared.rule.Action.TheVariants.{Deny, Permit}
use Rattle.route_policy.specs.declared.rule.Rule.{Rule}
use Rattle.route_policy.specs.Sameness.{same_match, same_settings, same_action, same_rule, same_policy}

compared_match : (m n : Match) → match_eq.it m n ≡ same_match m n
compared_match Any Any = refl
compared_match (Is p) (Is q) = refl
compared_match (Under p) (Under q) = refl
compared_match (Path m) (Path n) = refl
compared_match (First m) (First n) = refl
compared_match (Comm m) (Comm n) = refl
compared_match _ _ = refl

compared_settings : (s t : Settings) → settings_eq.it s t ≡ same_settings s t
compared_settings s t = refl

compared_action : (a b : Action) → action_eq.it a b ≡ same_action a b
compared_action Deny Deny = refl
compared_action (Permit s) (Permit t) = compared_settings s t
compared_action _ _ = refl

compared_rule : (r s : Rule) → rule_eq.it r s ≡ same_rule r s
compared_rule r s = λ i. compared_match r.cond s.cond i && compared_action r.act s.act i

pub compared_rules : (rules others : List Rule) → pointwise rule_eq.it rules others ≡ same_policy rules others
compared_rules [] [] = refl
compared_rules [] (s ∷ others) = refl
compared_rules (r ∷ rules) [] = refl
compared_rules (r ∷ rules) (s ∷ others) = λ i. compared_rule r s i && compared_rules rules others i
