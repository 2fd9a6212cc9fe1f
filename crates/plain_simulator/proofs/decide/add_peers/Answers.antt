use Rattle.route_select.specs.Selection.{with_standing}
use Rattle.reference_machine.specs.Decision.{standing_from}
use Rattle.plain_simulator.proofs.Lists.{folded_more}
use Rattle.plain_simulator.proofs.decide.add_peers.Goals as goal

pub loop-from-preserved : goal.loop-from-preserved
loop-from-preserved g c =
    folded_more (λ n e. with_standing e.0 e.1 n)
    (standing_from c.args.site.now c.args.prefix c.args.received.now.entries) _ _ c.from-item.result
    _ _ _ c.loop-from-test.true c.from-item.is
    c.loop-from.invariant c.in_ok-add_peer.ensures
