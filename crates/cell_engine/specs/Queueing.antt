-- What stays of the queues while messages are made ready or removed. No public contract cites this file.
use Rattle.std.specs.Prelude.{◌≡◌}
use Rattle.net_prefix.specs.declared.addr.Addr.{Addr}
use Rattle.session_queue.specs.Waiting.{Queues, queue_at, spare_at}

-- the messages on their way in each direction
abbrev pub KeepsMessages : Queues → Queues → Type 0
KeepsMessages q r = (f t : Addr) → queue_at r f t ≡ queue_at q f t

-- the number of its spare places
abbrev pub KeepsPlaces : Queues → Queues → Type 0
KeepsPlaces q r = (f t : Addr) → spare_at r f t ≡ spare_at q f t
