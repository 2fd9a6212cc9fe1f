use Rattle.std.proofs.Common.{sym, subst}
use Rattle.std.specs.BTreeMap.{is_at}
use Rattle.net_prefix.specs.Address.{addr_cmp}
use Rattle.net_prefix.specs.Orders.{addr_total}
use Rattle.cell_engine.specs.Senders.{AreInOrder}
use Rattle.reference_machine.proofs.Entries.{ordered_removed}
use Rattle.cell_engine.proofs.route_cell.received_routes.ReceivedRoutes.without.Goals as goal

pub invariant_of-result : goal.invariant_of-result
invariant_of-result c =
    let less = rw c.deref.ensures.value at c.in_ok-without_sender.ensures in
    subst AreInOrder (sym less)
    (ordered_removed addr_total (is_at (addr_cmp c.args.sender)) c.self.inside.routes.items c.self.invariant)
