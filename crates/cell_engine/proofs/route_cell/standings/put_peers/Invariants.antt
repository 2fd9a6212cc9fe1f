use Rattle.std.proofs.Common.{◌≡◌, take}
use Rattle.std.specs.List.{filter_map}
use Rattle.reference_machine.specs.Decision.{added}
use Rattle.cell_engine.specs.Cells.{standing_of}
use Rattle.cell_engine.proofs.route_cell.standings.put_peers.Given as goal

-- the routes over the sessions so far are put
abbrev pub invariant-loop-from : goal.invariant-loop-from
invariant-loop-from g l = g.S.Chosen.standings l.chosen ≡ added (g.S.Chosen.standings l.fn.chosen)
    (filter_map (standing_of l.site l.prefix l.received) (take l.from-index l.sessions))
