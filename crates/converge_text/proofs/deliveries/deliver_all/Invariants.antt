use Rattle.std.proofs.Common.{◌≡◌, ◌-◌}
use Rattle.converge_text.specs.Requests.{most_of}
use Rattle.converge_text.specs.Echoes.{AreEchoed}
use Rattle.converge_text.proofs.deliveries.deliver_all.Given as goal

-- so many were delivered, and written
abbrev pub invariant-deliveries : goal.invariant-deliveries
invariant-deliveries g l = record {
  most : l.run.most ≡ most_of l.asked.most;
  so_far : AreEchoed l.fn.machine (most_of l.asked.most) l.asked.echo l.fn.output l.run.tally l.written l.output
      l.machine;
}

abbrev pub decreases-deliveries : goal.decreases-deliveries
decreases-deliveries g l = l.run.most - l.run.tally.made
