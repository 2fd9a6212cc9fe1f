use Rattle.std.proofs.Common.{sym, subst}
use Rattle.cell_engine.specs.Senders.{AreInOrder}
use Rattle.cell_engine.proofs.SendersInOrder.{order_kept}
use Rattle.cell_engine.proofs.route_cell.received_routes.ReceivedRoutes.kept_at.Goals as goal

pub invariant_of-result : goal.invariant_of-result
invariant_of-result c =
    let kept = rw c.deref.ensures.value at c.in_ok-kept_routes.ensures in
    subst AreInOrder (sym kept) (order_kept c.args.site.now c.self.inside.routes.items c.self.invariant)
