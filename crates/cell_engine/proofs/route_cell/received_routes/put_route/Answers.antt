use Rattle.std.proofs.Common.{sym, ap, subst, ◌∙◌}
use Rattle.std.specs.List.{insert}
use Rattle.cell_engine.specs.RouterTables.{AreByRouter}
use Rattle.cell_engine.proofs.SenderPlaces.{put_is, sorted_senders}
use Rattle.cell_engine.proofs.route_cell.received_routes.put_route.Goals as goal

pub place-requires : goal.place-requires
place-requires c = subst AreByRouter (sym c.deref.ensures.value) (sorted_senders c.args.routes.now.items c.requires)

pub returns-in-Ok-clause-ok : goal.returns-in-Ok-clause-ok
returns-in-Ok-clause-ok c =
    let is = rw c.deref.ensures.value at c.in-Ok.ensures.found in
    is.written c.args.attr ∙ put_is c.args.sender c.args.attr c.args.routes.now.items

pub returns-in_ok-insert-in-Err-clause-ok : goal.returns-in_ok-insert-in-Err-clause-ok
returns-in_ok-insert-in-Err-clause-ok c =
    let away = rw c.deref.ensures.value at c.in-Err.ensures.absent in
    c.in_ok-insert-in-Err.ensures.items
    ∙ ap (λ es. insert es c.in-Err.at (c.args.sender, c.args.attr)) c.make_room.ensures
    ∙ away.added c.args.attr
    ∙ put_is c.args.sender c.args.attr c.args.routes.now.items
