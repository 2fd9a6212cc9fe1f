use Rattle.std.proofs.Common.{◌≡◌, take, map}
use Rattle.plain_simulator.specs.Choices.{prefix_choices}
use Rattle.plain_simulator.proofs.choices.choices_for.Given as goal

-- the choices for the prefixes so far
abbrev pub invariant-loop-prefix : goal.invariant-loop-prefix
invariant-loop-prefix g l = l.choices.items ≡ map (prefix_choices l.earlier l.later l.router)
    (take l.prefix-index l.prefixes)
