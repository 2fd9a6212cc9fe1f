use Rattle.std.proofs.Common.{◌≡◌, drop}
use Rattle.cell_engine.specs.Senders.{first_past}
use Rattle.cell_engine.proofs.route_cell.received_routes.next_in.Given as goal

-- the first is that of the routes that are left
abbrev pub invariant-loop-route : goal.invariant-loop-route
invariant-loop-route l = first_past (drop l.route-index l.routes) l.past ≡ first_past l.routes l.past
