use Rattle.std.proofs.Common.{◌≡◌, take}
use Rattle.std.specs.List.{filter_map}
use Rattle.cell_engine.specs.Updates.{send_if_up}
use Rattle.cell_engine.proofs.route_cell.sends.sends_over.Given as goal

-- what is sent over the sessions so far
abbrev pub invariant-loop-to : goal.invariant-loop-to
invariant-loop-to l = l.sends.items
    ≡ filter_map (send_if_up l.before.site l.after.site l.prefix l.before.best l.after.best)
    (take l.to-index l.sessions)
