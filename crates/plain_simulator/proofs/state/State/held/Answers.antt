use Rattle.std.proofs.Common.{◌∙◌, ap}
use Rattle.reference_machine.specs.Decision.{best}
use Rattle.reference_machine.specs.Reports.{held_of}
use Rattle.plain_simulator.proofs.Lists.{filter_map_pushed}
use Rattle.plain_simulator.proofs.state.State.held.Goals as goal

pub loop-prefix-preserved : goal.loop-prefix-preserved
loop-prefix-preserved g c =
    filter_map_pushed (λ p. held_of p (best c.args.self.now c.args.router p)) _ _ c.prefix-item.result
    _ _ _ c.loop-prefix-test.true c.prefix-item.is
    (c.in_ok-held.ensures ∙ ap (held_of c.prefix-item.result) (c.as_ref.ensures.value ∙ c.in_ok-route.ensures))
    c.loop-prefix.invariant c.in_ok-push_some.ensures.ok
