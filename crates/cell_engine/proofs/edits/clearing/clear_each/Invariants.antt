use Rattle.std.proofs.Common.{◌≡◌, [], take, if◌then◌else◌}
use Rattle.std.specs.List.{list_any}
use Rattle.net_prefix.specs.declared.addr.Addr.{Addr}
use Rattle.session_queue.specs.Waiting.{queue_at, spare_at}
use Rattle.cell_engine.specs.Edits.{is_of}
use Rattle.cell_engine.proofs.edits.clearing.clear_each.Given as goal

-- the sessions so far are cleared
abbrev pub invariant-loop-ends : goal.invariant-loop-ends
invariant-loop-ends l = record {
  queue : (f t : Addr) → queue_at l.queues f t ≡ (if list_any (is_of f t) (take l.ends-index l.sessions) then []
      else queue_at l.initial.queues f t);
  spare : (f t : Addr) → spare_at l.queues f t ≡ spare_at l.initial.queues f t;
  admitted : l.queues.admitted ≡ l.initial.queues.admitted;
}
