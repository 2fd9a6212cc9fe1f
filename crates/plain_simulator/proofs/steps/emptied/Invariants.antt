use Rattle.std.proofs.Common.{◌≡◌, map}
use Rattle.reference_machine.specs.Machine.{emptied}
use Rattle.plain_simulator.proofs.steps.emptied.Given as goal

-- the queues so far
abbrev pub invariant-loop-queue : goal.invariant-loop-queue
invariant-loop-queue l = l.after.items ≡ map (emptied l.conf) l.yielded
