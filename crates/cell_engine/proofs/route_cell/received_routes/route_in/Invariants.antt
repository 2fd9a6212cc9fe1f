use Rattle.std.proofs.Common.{◌≡◌, drop}
use Rattle.cell_engine.specs.Cells.{route_of}
use Rattle.cell_engine.proofs.route_cell.received_routes.route_in.Given as goal

-- the route is that of the routes that are left
abbrev pub invariant-loop-route : goal.invariant-loop-route
invariant-loop-route l = route_of (drop l.route-index l.routes) l.sender ≡ route_of l.routes l.sender
