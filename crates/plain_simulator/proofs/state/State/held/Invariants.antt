use Rattle.std.proofs.Common.{◌≡◌, take}
use Rattle.std.specs.List.{filter_map}
use Rattle.reference_machine.specs.Decision.{best}
use Rattle.reference_machine.specs.Reports.{held_of}
use Rattle.plain_simulator.proofs.state.State.held.Given as goal

-- the choices for the prefixes so far
abbrev pub invariant-loop-prefix : goal.invariant-loop-prefix
invariant-loop-prefix g l = l.routes.items ≡ filter_map (λ p. held_of p (best l.self l.router p))
    (take l.prefix-index l.prefixes)
