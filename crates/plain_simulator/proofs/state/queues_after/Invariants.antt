use Rattle.std.proofs.Common.{◌≡◌, take, map}
use Rattle.reference_machine.specs.Network.{with_more}
use Rattle.reference_machine.specs.Advertising.{sent}
use Rattle.plain_simulator.specs.Choices.{AreChoices}
use Rattle.plain_simulator.proofs.state.queues_after.Given as goal

-- the queues so far have what is sent, and what is kept of a router is right
abbrev pub invariant-loop-queue : goal.invariant-loop-queue
invariant-loop-queue g l = record {
  done : l.queues.items ≡ map (λ q. with_more q (sent l.earlier l.later q.of.from q.of.to))
      (take l.queue-index l.queue-items);
  kept : AreChoices l.earlier l.later l.kept;
}
