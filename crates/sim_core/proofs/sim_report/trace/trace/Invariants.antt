use Rattle.std.proofs.Common.{◌≡◌, suc, ◌-◌, [], length}
use Rattle.reference_machine.specs.Tracing.{trace_from}
use Rattle.reference_machine.proofs.Traces.{HaveForwarded}
use Rattle.cell_engine.specs.State.{network}
use Rattle.sim_core.proofs.sim_report.trace.trace.Given as goal

-- no router has forwarded twice, and the way goes on from here
abbrev pub invariant-hop : goal.invariant-hop
invariant-hop g l = record {
  have : HaveForwarded (network l.state) l.hops;
  same : trace_from (suc (length (network l.state).conf.nodes) - length l.hops) (network l.state) l.target l.hops l.at
      ≡ trace_from (suc (length (network l.state).conf.nodes)) (network l.state) l.target [] l.fn.router;
}

abbrev pub decreases-hop : goal.decreases-hop
decreases-hop g l = suc (length (network l.state).conf.nodes) - length l.hops
