-- What the engine does with a message, beside the network: the cell that it makes, and what has to be there before it
-- can take the message without memory.
use Rattle.std.specs.Prelude.{◌≡◌, ◌≤◌, true, List, ◌∷◌, length, Option, Some, None, is_some}
use Rattle.net_prefix.specs.declared.addr.Addr.{Addr}
use Rattle.net_prefix.specs.Prefix.{Prefix}
use Rattle.net_conf.specs.declared.site.SiteConf.{SiteConf}
use Rattle.net_conf.specs.RouterSites.{router_site}
use Rattle.session_queue.specs.declared.message.Message.{Message}
use Rattle.session_queue.specs.declared.direction.Direction.{Direction}
use Rattle.session_queue.specs.Telling.{prefix_of}
use Rattle.session_queue.specs.Waiting.{queue_at, spare_at}
use Rattle.cell_engine.specs.RouterTables.{value_at}
use Rattle.cell_engine.specs.Cells.{Cell, Outcome, delivered, stored}
use Rattle.cell_engine.specs.State.{State, cell_at, all_entries}
use Rattle.cell_engine.specs.Sending.{told}
use Rattle.cell_engine.specs.Admitting.{AreAdmitted}

-- a router decides, a virtual peer keeps what it receives
abbrev pub outcome_by : Option SiteConf → Cell → Addr → Message → Outcome
outcome_by None h u m = stored h u m
outcome_by (Some site) h u m = delivered site h u m

-- what the receiver makes of the message
abbrev pub outcome_at : State → Direction → Message → Outcome
outcome_at e d m = outcome_by (router_site e.conf d.to) (cell_at d.to (prefix_of m) e.tables) d.from m

-- the router has a cell of the prefix, and each message has a place in its queue, and is admitted
pub record HasRoom (e : State) (r : Addr) (p : Prefix) (sends : List (Addr × Message)) : Type 0 where
  pub cell : is_some (value_at r p e.tables) ≡ true
  pub places : (t : Addr) → length (told t sends) ≤ spare_at e.queues r t
  pub admitted : AreAdmitted e.queues.admitted sends

-- the outcome is that of the message at the head of the direction's queue
pub record IsOfHead (e : State) (d : Direction) (p : Prefix) (o : Outcome) : Type 0 where
  pub message : Message
  pub rest : List Message
  pub waits : queue_at e.queues d.from d.to ≡ message ∷ rest
  pub prefix : p ≡ prefix_of message
  pub outcome : o ≡ outcome_at e d message

-- the two keep the same: empty cells, spare places and what is admitted alone differ
pub record KeepsSame (e e' : State) : Type 0 where
  pub conf : e'.conf ≡ e.conf
  pub directions : e'.directions ≡ e.directions
  pub received : all_entries e'.tables ≡ all_entries e.tables
  pub cell : (r : Addr) (p : Prefix) → cell_at r p e'.tables ≡ cell_at r p e.tables
  pub queue : (f t : Addr) → queue_at e'.queues f t ≡ queue_at e.queues f t
