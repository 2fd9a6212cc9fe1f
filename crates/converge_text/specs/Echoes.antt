-- How far deliveries have come. No public clause cites this module.
use Rattle.std.specs.Prelude.{◌≡◌, ℕ, ◌≤◌, Bool, List, length, Result}
use Rattle.watched.specs.Streams.{Writing, Writes}
use Rattle.watched.specs.declared.sink.WriterFailed.{WriterFailed}
use Rattle.reference_machine.specs.Network.{Network}
use Rattle.convergence.specs.declared.delivery.Delivery.{Delivery}
use Rattle.convergence.specs.declared.delivery.Tally.{Tally}
use Rattle.convergence.specs.Deliveries.{tally_of, AreTaken}
use Rattle.converge_text.specs.Answers.{echoed}

-- so many were made, at most n, and they were written if they are to be
pub record AreEchoed (s : Network) (n : ℕ) (echo : Bool) (o : Writing) (tally : Tally)
    (written : Result (Unit {0}) WriterFailed) (o' : Writing) (s' : Network) : Type 0 where
  pub deliveries : List Delivery
  pub taken : AreTaken s deliveries s'
  pub tally_is : tally ≡ tally_of deliveries
  pub few : length deliveries ≤ n
  pub echoes : Writes o (echoed echo deliveries) written o'
