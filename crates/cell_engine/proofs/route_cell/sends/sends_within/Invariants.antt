use Rattle.std.proofs.Common.{◌≡◌, take}
use Rattle.std.specs.List.{filter_map}
use Rattle.cell_engine.specs.Within.{send_within}
use Rattle.cell_engine.proofs.route_cell.sends.sends_within.Given as goal

-- what is sent over the sessions so far, by adverts that stay
abbrev pub invariant-loop-to : goal.invariant-loop-to
invariant-loop-to l =
    (l.sends.items ≡ filter_map (send_within l.prefix l.fn.before l.fn.after) (take l.to-index l.sessions))
    × (l.before ≡ l.fn.before) × (l.after ≡ l.fn.after)
