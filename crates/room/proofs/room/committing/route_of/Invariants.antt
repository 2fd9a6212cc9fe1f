use Rattle.std.proofs.Common.{◌≡◌, drop}
use Rattle.cell_engine.specs.Cells.{route_of}
use Rattle.room.proofs.room.committing.route_of.Given as goal

-- what is left has the peer's route, if the whole has it
abbrev pub invariant-loop-route : goal.invariant-loop-route
invariant-loop-route l = route_of l.routes l.peer ≡ route_of (drop l.route-index l.routes) l.peer
