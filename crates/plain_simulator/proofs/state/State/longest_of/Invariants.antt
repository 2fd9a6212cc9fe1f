use Rattle.std.proofs.Common.{◌≡◌, take, filter}
use Rattle.reference_machine.specs.Tracing.{longest, forwards_by}
use Rattle.plain_simulator.proofs.state.State.longest_of.Given as goal

-- the longest of the prefixes so far
abbrev pub invariant-loop-prefix : goal.invariant-loop-prefix
invariant-loop-prefix g l =
    l.found ≡ longest (filter (forwards_by l.self l.router l.target) (take l.prefix-index l.prefixes))
