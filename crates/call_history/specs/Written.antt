-- What is written down of calls.
use Rattle.std.specs.Prelude.{ℕ, List}
use Rattle.session_queue.specs.declared.message.Message.{Message}
use Rattle.session_queue.specs.Telling.{prefix_of, kind_of}
use Rattle.sim_event.specs.declared.entry.Entry.{Entry}
use Rattle.sim_event.specs.declared.reply.Reply.{Reply}
use Rattle.sim_event.specs.declared.reply.Reply.TheVariants.{Took}

-- a history as it is written; entries: the calls that were made, the first first; space: for how many more there is
-- some
pub record HistoryBook : Type 0 where
  pub entries : List Entry
  pub space : ℕ

-- the number of the seat from which a call was made
abbrev pub caller_of : Entry → ℕ
caller_of e = e.seat

-- the reply to a delivery of the message
abbrev pub took_of : Message → Reply
took_of m = Took (prefix_of m) (kind_of m)
