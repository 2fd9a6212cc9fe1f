use Rattle.std.proofs.Common.{◌≡◌, take}
use Rattle.route_policy.specs.PathSplit.{other_rules}
use Rattle.route_policy.proofs.path_split.other_rules.Given as goal

-- those of the rules so far
abbrev pub invariant-loop-rule : goal.invariant-loop-rule
invariant-loop-rule l = l.kept.items ≡ other_rules (take l.rule-index l.rules)
