use Rattle.std.proofs.Common.{sym, subst}
use Rattle.cell_engine.specs.RouterTables.{AreByRouter}
use Rattle.cell_engine.proofs.SenderPlaces.{none_taken_out, sorted_senders}
use Rattle.cell_engine.proofs.route_cell.received_routes.remove_route.Goals as goal

pub place-requires : goal.place-requires
place-requires c = subst AreByRouter (sym c.deref.ensures.value) (sorted_senders c.args.routes.now.items c.requires)

pub returns-in_default : goal.returns-in_default
returns-in_default c =
    let away = rw c.deref.ensures.value at c.in_default.ensures.absent in
    none_taken_out c.args.sender c.args.routes.now.items away.absent
