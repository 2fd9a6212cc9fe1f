use Rattle.std.proofs.Common.{◌≡◌, ◌≤◌, length, take}
use Rattle.session_queue.specs.Waiting.{queue_at}
use Rattle.sim_core.proofs.sim_report.queues.messages_in.Given as goal

-- the messages so far were copied, and the end is that of the queue
abbrev pub invariant-loop-index : goal.invariant-loop-index
invariant-loop-index l = record {
  so_far : l.messages.items ≡ take l.index (queue_at l.queues l.direction.from l.direction.to);
  in_range : l.index ≤ l.index-end;
  end : l.index-end ≡ length (queue_at l.queues l.direction.from l.direction.to);
}
