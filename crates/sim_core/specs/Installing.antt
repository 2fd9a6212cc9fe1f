-- Deliveries whose outcome was made beside the machine.
use Rattle.std.specs.Prelude.{◌≡◌, List, ◌∷◌}
use Rattle.session_queue.specs.declared.message.Message.{Message}
use Rattle.session_queue.specs.declared.direction.Direction.{Direction}
use Rattle.session_queue.specs.Waiting.{queue_at}
use Rattle.cell_engine.specs.Cells.{Outcome}
use Rattle.cell_engine.specs.State.{State}
use Rattle.cell_engine.specs.Deliveries.{outcome_at}

-- the outcome is what the receiver makes, in this state, of the message at the head of the direction's queue
pub record IsOutcomeOfHead (e : State) (d : Direction) (o : Outcome) : Type 0 where
  pub message : Message
  pub rest : List Message
  pub waits : queue_at e.queues d.from d.to ≡ message ∷ rest
  pub outcome : o ≡ outcome_at e d message
