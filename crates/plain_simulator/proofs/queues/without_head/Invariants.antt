use Rattle.std.proofs.Common.{◌≡◌, take}
use Rattle.reference_machine.specs.Network.{without_head}
use Rattle.plain_simulator.proofs.queues.without_head.Given as goal

-- the queues so far
abbrev pub invariant-loop-queue : goal.invariant-loop-queue
invariant-loop-queue l = l.after.items ≡ without_head l.direction (take l.queue-index l.queues)
