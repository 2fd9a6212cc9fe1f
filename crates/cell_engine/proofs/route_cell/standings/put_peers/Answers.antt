use Rattle.route_select.specs.Selection.{with_standing}
use Rattle.cell_engine.specs.Cells.{standing_of}
use Rattle.cell_engine.proofs.Lists.{folded_more}
use Rattle.cell_engine.proofs.route_cell.standings.put_peers.Goals as goal

pub loop-from-preserved : goal.loop-from-preserved
loop-from-preserved g c =
    folded_more (λ n e. with_standing e.0 e.1 n) (standing_of c.args.site.now c.args.prefix c.args.received.now)
    _ _ c.from-item.result _ _ _ c.loop-from-test.true c.from-item.is
    c.loop-from.invariant c.in_ok-put_peer.ensures
