-- No public contract cites this file. Parts of the words of a rule.
use Rattle.std.specs.Prelude.{ℕ, ◌<◌, ◌^◌, List, ◌++◌, Option, IfSome}
use Rattle.route_policy.specs.declared.rule.Rule.{Rule}
use Rattle.sim_event.specs.Events.{IsMatch, IsAction}
use Rattle.command_text.specs.Words.{match_words, action_words}

abbrev pub IsRule : Rule → Type 0
IsRule rule = IsMatch rule.cond × IsAction rule.act

abbrev pub rule_words : Rule → List (List ℕ)
rule_words rule = match_words rule.cond ++ action_words rule.act

-- a number that a setting may have
abbrev pub IsMaybeNumber : Option ℕ → Type 0
IsMaybeNumber n = IfSome n (λ n. n < 2 ^ 32)
