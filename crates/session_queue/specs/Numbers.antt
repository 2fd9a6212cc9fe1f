-- No public contract cites this file. Messages whose attributes are numbers of a pool.
use Rattle.std.specs.Prelude.{◌<◌, List, map, length, get_or}
use Rattle.std.specs.List.{All}
use Rattle.net_prefix.specs.declared.addr.Addr.{Addr}
use Rattle.path_attr.specs.declared.attr.Attr.{Attr}
use Rattle.path_attr.specs.Attribute.{plain_attr}
use Rattle.session_queue.specs.declared.message.Message.{Message}
use Rattle.session_queue.specs.declared.message.Message.TheVariants.{Update, Withdraw}
use Rattle.session_queue.specs.declared.numbered.Numbered.{Numbered}
use Rattle.session_queue.specs.declared.numbered.Numbered.TheVariants.{Update as NumberedUpdate, Withdraw as NumberedWithdrawal}
use Rattle.session_queue.specs.Lines.{Waiting, Lines, messages_at}
use Rattle.session_queue.specs.Waiting.{Queues}

-- what stands for a number that no pool has given: it is never seen
abbrev pub no_attr : Attr
no_attr = plain_attr (record { 0 = 0 })

-- the message, its attributes by the pool's numbers
abbrev pub message_by : List Attr → Numbered → Message
message_by pool (NumberedUpdate p n) = Update p (get_or pool n no_attr)
message_by pool (NumberedWithdrawal p) = Withdraw p

abbrev pub waiting_by : List Attr → Waiting Numbered → Waiting Message
waiting_by pool w = record { messages = map (message_by pool) w.messages; spare = w.spare }

abbrev pub lines_by : List Attr → Lines Numbered → Lines Message
lines_by pool ls = map (λ e. (e.0, waiting_by pool e.1)) ls

-- what contracts see of a pool and of numbered lines
abbrev pub shown : List Attr → Lines Numbered → Queues
shown pool ls = record { lines = lines_by pool ls; admitted = pool }

-- the pool has given the number
abbrev pub IsGiven : List Attr → Numbered → Type 0
IsGiven pool (NumberedUpdate p n) = n < length pool
IsGiven pool (NumberedWithdrawal p) = Unit {0}

-- each message's number was given by the pool
pub record AreGiven (pool : List Attr) (ls : Lines Numbered) : Type 0 where
  pub given : (from to : Addr) → All (IsGiven pool) (messages_at ls from to)
