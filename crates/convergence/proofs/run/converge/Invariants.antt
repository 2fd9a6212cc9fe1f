use Rattle.std.proofs.Common.{◌≡◌, ◌-◌}
use Rattle.convergence.specs.Deliveries.{AreDelivered}
use Rattle.convergence.proofs.run.converge.Given as goal

-- so many were delivered
abbrev pub invariant-deliveries : goal.invariant-deliveries
invariant-deliveries g l = record {
  most : l.run.most ≡ l.most;
  so_far : AreDelivered l.fn.machine l.most l.run.tally l.machine;
}

abbrev pub decreases-deliveries : goal.decreases-deliveries
decreases-deliveries g l = l.run.most - l.run.tally.made
