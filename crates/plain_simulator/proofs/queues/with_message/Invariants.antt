use Rattle.std.proofs.Common.{◌≡◌, take}
use Rattle.reference_machine.specs.Network.{with_message}
use Rattle.plain_simulator.proofs.queues.with_message.Given as goal

-- the queues so far
abbrev pub invariant-loop-queue : goal.invariant-loop-queue
invariant-loop-queue l = l.after.items ≡ with_message l.direction l.message (take l.queue-index l.queues)
