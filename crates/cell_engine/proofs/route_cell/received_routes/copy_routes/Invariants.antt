use Rattle.std.proofs.Common.{◌≡◌, take}
use Rattle.cell_engine.proofs.route_cell.received_routes.copy_routes.Given as goal

-- the routes so far are copied
abbrev pub invariant-loop-route : goal.invariant-loop-route
invariant-loop-route l = l.copies.items ≡ take l.route-index l.routes
