use Rattle.cell_engine.specs.Updates.{send_if_up}
use Rattle.cell_engine.proofs.Lists.{filter_map_pushed}
use Rattle.cell_engine.proofs.route_cell.sends.sends_over.Goals as goal

pub loop-to-preserved : goal.loop-to-preserved
loop-to-preserved c =
    let before = c.args.before.now in
    let after = c.args.after.now in
    filter_map_pushed (send_if_up before.site after.site c.args.prefix before.best after.best) _ _ c.to-item.result
    _ _ _ c.loop-to-test.true c.to-item.is
    c.in_ok-send.ensures
    c.loop-to.invariant c.in_ok-push_some.ensures.ok
