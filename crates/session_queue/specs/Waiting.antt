-- The queues of sessions: in each direction the messages on their way, the head first, and how many more it can take
-- (own). Messages are received in the order in which they were sent (RFC 4271, 3), and none is merged with another
-- (own).
use Rattle.std.specs.Prelude.{◌≡◌, ℕ, true, false, List, [], Option, Some, None}
use Rattle.net_prefix.specs.declared.addr.Addr.{Addr}
use Rattle.path_attr.specs.declared.attr.Attr.{Attr}
use Rattle.attr_pool.specs.Pooled.{has_attr, with_attr}
use Rattle.session_queue.specs.declared.message.Message.{Message}
use Rattle.session_queue.specs.declared.message.Message.TheVariants.{Update, Withdraw}
use Rattle.session_queue.specs.Lines.{Lines, messages_at, spare_in, same_direction, IsBefore, IsPast}
pub use Rattle.session_queue.specs.Lines.{direction_cmp, same_direction, IsBefore, IsPast}

-- lines: the messages of each direction, and how many more it can take; admitted: the attributes that an update may
-- have, each once (own)
pub record Queues : Type 0 where
  pub lines : Lines Message
  pub admitted : List Attr

-- no line, and no attributes
abbrev pub nothing_waits : Queues
nothing_waits = record { lines = []; admitted = [] }

-- the messages on their way in the direction, the head first
unfoldable pub queue_at : Queues → Addr → Addr → List Message
queue_at q from to = messages_at q.lines from to

-- how many more messages the direction can take without memory
unfoldable pub spare_at : Queues → Addr → Addr → ℕ
spare_at q from to = spare_in q.lines from to

-- an update's attributes are among these; a withdrawal has none
abbrev pub IsAdmittedBy : List Attr → Message → Type 0
IsAdmittedBy attrs (Update p attr) = has_attr attrs attr ≡ true
IsAdmittedBy attrs (Withdraw p) = Unit {0}

-- the attributes of the message are admitted
abbrev pub IsAdmitted : Queues → Message → Type 0
IsAdmitted q m = IsAdmittedBy q.admitted m

-- the attributes that are admitted once those of the message are
abbrev pub admitted_with : Queues → Message → List Attr
admitted_with q (Update p attr) = with_attr q.admitted attr
admitted_with q (Withdraw p) = q.admitted

-- what was admitted stays so
abbrev pub KeepsAdmitted : Queues → Queues → Type 0
KeepsAdmitted q r = (attr : Attr) → has_attr q.admitted attr ≡ true → has_attr r.admitted attr ≡ true

-- each other direction keeps its messages and how many more it can take
pub record KeepsOthers (from to : Addr) (q r : Queues) : Type 0 where
  pub queue : (f t : Addr) → same_direction from to f t ≡ false → queue_at r f t ≡ queue_at q f t
  pub spare : (f t : Addr) → same_direction from to f t ≡ false → spare_at r f t ≡ spare_at q f t

-- no message is on its way in any direction
abbrev pub IsQuiet : Queues → Type 0
IsQuiet q = (from to : Addr) → queue_at q from to ≡ []

-- no message is on its way in a direction past the start and before the one that was found; where none was found, in
-- none past the start
abbrev pub SkipsNone : Queues → Option (Addr × Addr) → Option (Addr × Addr) → Type 0
SkipsNone q start None = (from to : Addr) → IsPast start (from, to) → queue_at q from to ≡ []
SkipsNone q start (Some found) = (from to : Addr) → IsPast start (from, to) → IsBefore (from, to) found →
    queue_at q from to ≡ []
