use Rattle.std.proofs.Common.{sym, subst}
use Rattle.cell_engine.specs.Senders.{AreInOrder}
use Rattle.cell_engine.proofs.SendersInOrder.{order_over}
use Rattle.cell_engine.proofs.route_cell.received_routes.ReceivedRoutes.kept_by.Goals as goal

pub invariant_of-result : goal.invariant_of-result
invariant_of-result c =
    let kept = rw c.deref.ensures.value at c.in_ok-routes_over.ensures in
    subst AreInOrder (sym kept) (order_over c.args.conf.now c.args.to c.self.inside.routes.items c.self.invariant)
