use Rattle.std.proofs.Common.{◌+◌}
use Rattle.cell_engine.specs.Reporting.{NoneIsChosenFrom}
use Rattle.sim_core.proofs.sim_report.trace.longest_chosen.Given as goal

-- nothing is chosen for a longer match
abbrev pub invariant-shorter : goal.invariant-shorter
invariant-shorter g l = NoneIsChosenFrom (l.most + 1) l.fn.router l.target l.state.tables

abbrev pub decreases-shorter : goal.decreases-shorter
decreases-shorter g l = l.most
