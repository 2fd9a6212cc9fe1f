use Rattle.std.proofs.Common.{◌≡◌, drop}
use Rattle.route_policy.specs.PathSplit.{by_place}
use Rattle.route_policy.proofs.policy.first_by_place.Given as goal

-- the rules so far do not match
abbrev pub invariant-loop-rule : goal.invariant-loop-rule
invariant-loop-rule l = by_place l.prefix l.attr l.place l.rules ≡ by_place l.prefix l.attr l.left
    (drop l.rule-index l.rules)
