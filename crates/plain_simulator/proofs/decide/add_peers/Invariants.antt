use Rattle.std.proofs.Common.{◌≡◌, take}
use Rattle.std.specs.List.{filter_map}
use Rattle.reference_machine.specs.Decision.{added, standing_from}
use Rattle.plain_simulator.proofs.decide.add_peers.Given as goal

-- the routes over the sessions so far are added
abbrev pub invariant-loop-from : goal.invariant-loop-from
invariant-loop-from g l = g.S.Chosen.standings l.chosen ≡ added (g.S.Chosen.standings l.fn.chosen)
    (filter_map (standing_from l.site l.prefix l.received.entries) (take l.from-index l.sessions))
