-- How much a policy holds.
use Rattle.std.specs.Prelude.{ℕ, Bool, nat_le, List, length}
use Rattle.route_policy.specs.declared.rule.Rule.{Rule}

-- the most rules of a policy (own)
abbrev pub most_rules : ℕ
most_rules = 256

-- whether the policy takes no more rules
abbrev pub is_full : List Rule → Bool
is_full rules = nat_le most_rules (length rules)
