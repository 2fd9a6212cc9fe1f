-- What an event will do: what is planned before anything changes, and what has to be there before it can be done
-- without memory.
use Rattle.std.specs.Prelude.{◌≡◌, ◌<◌, ◌⊎◌, false, List, Option, Some, None, Result, Ok, Err}
use Rattle.net_prefix.specs.declared.addr.Addr.{Addr}
use Rattle.net_prefix.specs.Prefix.{Prefix}
use Rattle.session_queue.specs.declared.message.Message.{Message}
use Rattle.session_queue.specs.declared.direction.Direction.{Direction}
use Rattle.session_queue.specs.Waiting.{spare_at, IsAdmitted}
use Rattle.net_conf.specs.declared.edit.Edit.{Edit}
use Rattle.net_conf.specs.declared.refusal.Refusal.{Refusal}
use Rattle.net_conf.specs.declared.refusal.Refusal.TheVariants.{Memory}
use Rattle.sim_event.specs.declared.event.Event.{Event}
use Rattle.sim_event.specs.declared.event.Event.TheVariants.{Edit as AnEdit, Feed as AFeed, Deliver, Ask as AnAsk}
use Rattle.sim_event.specs.declared.event.Feed.{Feed}
use Rattle.sim_event.specs.declared.reply.Reply.{Reply}
use Rattle.reference_machine.specs.Machine.{step, refused, is_refusal, asks_quiet, fed_message}
use Rattle.cell_engine.specs.Cells.{Outcome}
use Rattle.cell_engine.specs.State.{State, network}
use Rattle.cell_engine.specs.Deliveries.{HasRoom, IsOfHead}
use Rattle.cell_engine.specs.Edits.{Edited, IsPlanned, HasPlaces}
use Rattle.sim_core.specs.Counting.{Refreshes}

-- the message at the head of a direction's queue is taken: its prefix, and what the receiver makes of it
pub record Taken : Type 0 where
  pub direction : Direction
  pub prefix : Prefix
  pub outcome : Outcome

-- what will be answered; the cells to be decided; and what will be done: a message is put on its way, or one is taken,
-- or the configuration is edited, or nothing
pub record Plan : Type 0 where
  pub reply : Reply
  pub refreshed : List (Addr × Prefix)
  pub pushed : Option (Direction × Message)
  pub taken : Option Taken
  pub edited : Option Edited

-- WHAT EACH EVENT DOES

pub record DoesEdit (e : State) (edit : Edit) (x : Plan) : Type 0 where
  pub plan : Edited
  pub pushed : x.pushed ≡ None
  pub taken : x.taken ≡ None
  pub edited : x.edited ≡ Some plan
  pub is : IsPlanned e edit plan
  pub room : HasPlaces e plan

abbrev pub fed_in : Feed → Direction
fed_in f = record { from = f.from; to = f.to }

pub record DoesFeed (e : State) (f : Feed) (x : Plan) : Type 0 where
  pub pushed : x.pushed ≡ Some (fed_in f, fed_message f.from f.news)
  pub taken : x.taken ≡ None
  pub edited : x.edited ≡ None
  pub room : 0 < spare_at e.queues f.from f.to
  pub admitted : IsAdmitted e.queues (fed_message f.from f.news)

pub record DoesDelivery (e : State) (d : Direction) (x : Plan) : Type 0 where
  pub prefix : Prefix
  pub outcome : Outcome
  pub pushed : x.pushed ≡ None
  pub taken : x.taken ≡ Some (record { direction = d; prefix = prefix; outcome = outcome })
  pub edited : x.edited ≡ None
  pub head : IsOfHead e d prefix outcome
  pub room : HasRoom e d.to prefix outcome.sends

pub record DoesNothing (x : Plan) : Type 0 where
  pub pushed : x.pushed ≡ None
  pub taken : x.taken ≡ None
  pub edited : x.edited ≡ None

abbrev pub Does : State → Event → Plan → Type 0
Does e (AnEdit edit) x = DoesEdit e edit x
Does e (AFeed f) x = DoesFeed e f x
Does e (Deliver a b) x = DoesDelivery e (record { from = a; to = b }) x
Does e (AnAsk q) x = DoesNothing x

-- PREPARED

-- the machine does not refuse the event; the plan is what it does, with the machine's reply and the cells that it
-- decides anew; and all that takes memory is there
pub record IsPrepared (e : State) (event : Event) (x : Plan) : Type 0 where
  pub reply : x.reply ≡ (step (network e) event).reply
  pub accepted : is_refusal x.reply ≡ false
  pub refreshes : Refreshes (network e) event x.refreshed
  pub does : Does e event x

-- the plan is that of an event
pub record IsOfEvent (e : State) (x : Plan) : Type 0 where
  pub event : Event
  pub is : IsPrepared e event x

-- the machine itself refuses the event for this reason; or, where it refuses nothing, there was no memory
abbrev pub IsRefused : State → Event → Refusal → Type 0
IsRefused e event r = (step (network e) event ≡ refused r (network e))
    ⊎ ((r ≡ Memory) × (is_refusal (step (network e) event).reply ≡ false) × (asks_quiet event ≡ false))

abbrev pub Prepares : State → Event → Result Plan Refusal → Type 0
Prepares e event (Ok x) = IsPrepared e event x
Prepares e event (Err r) = IsRefused e event r
