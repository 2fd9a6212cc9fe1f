use Rattle.std.proofs.Common.{sym, subst}
use Rattle.cell_engine.specs.Senders.{AreInOrder}
use Rattle.cell_engine.proofs.SendersInOrder.{order_none}
use Rattle.cell_engine.proofs.route_cell.received_routes.ReceivedRoutes.new.Goals as goal

pub invariant_of-result : goal.invariant_of-result
invariant_of-result c = subst AreInOrder (sym c.new.ensures.items) order_none
