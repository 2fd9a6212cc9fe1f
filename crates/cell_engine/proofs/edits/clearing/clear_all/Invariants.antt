use Rattle.std.proofs.Common.{◌≡◌, [], take, if◌then◌else◌}
use Rattle.std.specs.List.{list_any}
use Rattle.net_prefix.specs.declared.addr.Addr.{Addr}
use Rattle.session_queue.specs.Waiting.{queue_at, spare_at}
use Rattle.shared_map.specs.Chunks.{keys_in}
use Rattle.cell_engine.specs.Edits.{is_of}
use Rattle.cell_engine.proofs.edits.clearing.clear_all.Given as goal

-- the sessions of the lists so far are cleared
abbrev pub invariant-loop-list : goal.invariant-loop-list
invariant-loop-list l = record {
  queue : (f t : Addr) → queue_at l.queues f t ≡ (if list_any (is_of f t) (keys_in (take l.list-index l.lists)) then []
      else queue_at l.initial.queues f t);
  spare : (f t : Addr) → spare_at l.queues f t ≡ spare_at l.initial.queues f t;
  admitted : l.queues.admitted ≡ l.initial.queues.admitted;
}
