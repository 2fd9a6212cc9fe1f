use Rattle.std.proofs.Common.{◌≡◌, filter, take}
use Rattle.net_conf.specs.Costs.{is_up}
use Rattle.cell_engine.proofs.route_cell.received_routes.routes_over.Given as goal

-- those of the routes so far are kept
abbrev pub invariant-loop-route : goal.invariant-loop-route
invariant-loop-route l = l.kept.items ≡ filter (λ e. is_up l.conf e.0 l.to) (take l.route-index l.routes)
