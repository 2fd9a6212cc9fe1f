use Rattle.std.proofs.Common.{◌≡◌, drop}
use Rattle.std.specs.List.{list_any}
use Rattle.cell_engine.specs.SiteMoves.{is_route_moved}
use Rattle.cell_engine.proofs.route_cell.moves.SiteChange.moves_any.Given as goal

-- one of all routes moves just where one of those that are left does
abbrev pub invariant-loop-route : goal.invariant-loop-route
invariant-loop-route l =
    (list_any (is_route_moved l.fn.self l.prefix) (drop l.route-index l.routes)
    ≡ list_any (is_route_moved l.fn.self l.prefix) l.routes)
    × (l.self ≡ l.fn.self)
