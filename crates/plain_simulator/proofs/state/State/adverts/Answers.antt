use Rattle.reference_machine.specs.Reports.{advert_at}
use Rattle.plain_simulator.proofs.Lists.{filter_map_pushed}
use Rattle.plain_simulator.proofs.state.State.adverts.Goals as goal

pub loop-prefix-preserved : goal.loop-prefix-preserved
loop-prefix-preserved g c =
    filter_map_pushed (advert_at c.args.self.now c.args.router c.args.peer) _ _ c.prefix-item.result
    _ _ _ c.loop-prefix-test.true c.prefix-item.is
    c.in_ok-route.ensures
    c.loop-prefix.invariant c.in_ok-push_some.ensures.ok
