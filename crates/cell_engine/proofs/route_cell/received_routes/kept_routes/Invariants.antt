use Rattle.std.proofs.Common.{◌≡◌, take}
use Rattle.cell_engine.specs.Cells.{kept_routes}
use Rattle.cell_engine.proofs.route_cell.received_routes.kept_routes.Given as goal

-- those of the routes so far are kept
abbrev pub invariant-loop-route : goal.invariant-loop-route
invariant-loop-route l = l.kept.items ≡ kept_routes l.site (take l.route-index l.routes)
