use Rattle.std.specs.BTreeSet.{insert_key}
use Rattle.route_select.specs.Selection.{source_cmp}
use Rattle.reference_machine.specs.Decision.{standing_from}
use Rattle.plain_simulator.proofs.Lists.{folded_more}
use Rattle.plain_simulator.proofs.reasons.add_peers.Goals as goal

pub loop-from-preserved : goal.loop-from-preserved
loop-from-preserved c =
    folded_more (λ ks e. insert_key source_cmp ks e.0)
    (standing_from c.args.site.now c.args.prefix c.args.received.now.entries) _ _ c.from-item.result
    _ _ _ c.loop-from-test.true c.from-item.is
    c.loop-from.invariant c.in_ok-add_peer.ensures
