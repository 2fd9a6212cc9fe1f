use Rattle.route_policy.specs.PathSplit.{path_number}
use Rattle.route_policy.proofs.Lists.{filter_map_pushed}
use Rattle.route_policy.proofs.path_split.path_numbers.Goals as goal

pub loop-rule-preserved : goal.loop-rule-preserved
loop-rule-preserved c =
    filter_map_pushed (λ r. path_number r.cond) _ _ c.rule-item.result _ _ _ c.loop-rule-test.true c.rule-item.is
    c.path_number.ensures
    c.loop-rule.invariant c.in_ok-push_some.ensures.ok
