use Rattle.std.proofs.Common.{◌≤◌}
use Rattle.table_bench.proofs.work.ask.Given as goal

abbrev pub invariant-loop-turn : goal.invariant-loop-turn
invariant-loop-turn g l = l.found ≤ l._turn
