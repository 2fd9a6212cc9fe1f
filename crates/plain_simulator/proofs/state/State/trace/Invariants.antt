use Rattle.std.proofs.Common.{◌≡◌, suc, ◌-◌, [], length}
use Rattle.reference_machine.specs.Tracing.{trace_from}
use Rattle.reference_machine.proofs.Traces.{HaveForwarded}
use Rattle.plain_simulator.proofs.state.State.trace.Given as goal

-- no router has forwarded twice, and the way goes on from here
abbrev pub invariant-hop : goal.invariant-hop
invariant-hop g l = record {
  have : HaveForwarded l.self l.hops;
  same : trace_from (suc (length l.self.conf.nodes) - length l.hops) l.self l.target l.hops l.at
      ≡ trace_from (suc (length l.self.conf.nodes)) l.self l.target [] l.fn.router;
}

abbrev pub decreases-hop : goal.decreases-hop
decreases-hop g l = suc (length l.self.conf.nodes) - length l.hops
