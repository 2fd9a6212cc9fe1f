use Rattle.std.proofs.Common.{◌≡◌, [], true, false}
use Rattle.net_prefix.specs.declared.addr.Addr.{Addr}
use Rattle.net_conf.specs.Costs.{is_up}
use Rattle.session_queue.specs.Waiting.{queue_at, spare_at}
use Rattle.cell_engine.proofs.Cleared.{is_behind}
use Rattle.cell_engine.proofs.edits.clearing.clear_found.Given as goal

-- the directions so far are cleared, where they are down
abbrev pub invariant-walk : goal.invariant-walk
invariant-walk l = record {
  up : (f t : Addr) → is_up l.conf f t ≡ true → queue_at l.queues f t ≡ queue_at l.fn.queues f t;
  behind : (f t : Addr) → is_behind l.past f t ≡ true → is_up l.conf f t ≡ false → queue_at l.queues f t ≡ [];
  empty : (f t : Addr) → queue_at l.fn.queues f t ≡ [] → queue_at l.queues f t ≡ [];
  spare : (f t : Addr) → spare_at l.queues f t ≡ spare_at l.fn.queues f t;
  admitted : l.queues.admitted ≡ l.fn.queues.admitted;
}

abbrev pub decreases-walk : goal.decreases-walk
decreases-walk l = l.left
