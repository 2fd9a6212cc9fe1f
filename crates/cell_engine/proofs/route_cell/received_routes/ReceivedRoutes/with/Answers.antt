use Rattle.std.proofs.Common.{sym, subst}
use Rattle.net_prefix.specs.Orders.{addr_total}
use Rattle.cell_engine.specs.Senders.{AreInOrder}
use Rattle.reference_machine.proofs.Entries.{ordered_inserted}
use Rattle.cell_engine.proofs.route_cell.received_routes.ReceivedRoutes.with.Goals as goal

pub invariant_of-result : goal.invariant_of-result
invariant_of-result c =
    let more = rw c.deref.ensures.value at c.in_ok-with_route.ensures in
    subst AreInOrder (sym more)
    (ordered_inserted addr_total c.args.sender c.args.attr.now c.self.inside.routes.items c.self.invariant)
