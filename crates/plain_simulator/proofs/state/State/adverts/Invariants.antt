use Rattle.std.proofs.Common.{◌≡◌, take}
use Rattle.std.specs.List.{filter_map}
use Rattle.reference_machine.specs.Reports.{advert_at}
use Rattle.plain_simulator.proofs.state.State.adverts.Given as goal

-- what is advertised for the prefixes so far
abbrev pub invariant-loop-prefix : goal.invariant-loop-prefix
invariant-loop-prefix g l = l.routes.items ≡ filter_map (advert_at l.self l.router l.peer)
    (take l.prefix-index l.prefixes)
