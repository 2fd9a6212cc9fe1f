use Rattle.route_policy.specs.PathSplit.{other_rule}
use Rattle.route_policy.proofs.Lists.{filter_map_pushed}
use Rattle.route_policy.proofs.path_split.other_rules.Goals as goal

pub loop-rule-preserved : goal.loop-rule-preserved
loop-rule-preserved c =
    filter_map_pushed other_rule _ _ c.rule-item.result _ _ _ c.loop-rule-test.true c.rule-item.is
    c.other_rule.ensures
    c.loop-rule.invariant c.in_ok-push_some.ensures.ok
