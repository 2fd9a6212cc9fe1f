use Rattle.std.proofs.Common.{◌≤◌}
use Rattle.table_bench.proofs.work.fill.Given as goal

abbrev pub invariant-loop-value : goal.invariant-loop-value
invariant-loop-value g l = l.fresh ≤ l.value
