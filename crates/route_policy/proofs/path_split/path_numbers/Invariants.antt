use Rattle.std.proofs.Common.{◌≡◌, take}
use Rattle.route_policy.specs.PathSplit.{path_numbers}
use Rattle.route_policy.proofs.path_split.path_numbers.Given as goal

-- the numbers of the rules so far
abbrev pub invariant-loop-rule : goal.invariant-loop-rule
invariant-loop-rule l = l.numbers.items ≡ path_numbers (take l.rule-index l.rules)
