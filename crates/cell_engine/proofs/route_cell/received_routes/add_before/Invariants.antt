use Rattle.std.proofs.Common.{◌≡◌, ◌++◌, take, filter}
use Rattle.std.specs.Ordering.{is_gt}
use Rattle.net_prefix.specs.Address.{addr_cmp}
use Rattle.cell_engine.proofs.route_cell.received_routes.add_before.Given as goal

-- those of the routes so far are added
abbrev pub invariant-loop-route : goal.invariant-loop-route
invariant-loop-route l = l.kept.items ≡ l.fn.kept.items ++ filter (λ e. is_gt (addr_cmp l.sender e.0))
    (take l.route-index l.routes)
