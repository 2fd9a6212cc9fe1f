use Rattle.std.proofs.Common.{◌≡◌, ◌++◌}
use Rattle.plain_simulator.proofs.queues.with_more.Given as goal

-- the messages so far are at the end
abbrev pub invariant-loop-message : goal.invariant-loop-message
invariant-loop-message l = l.all ≡ l.queue.messages ++ l.yielded
