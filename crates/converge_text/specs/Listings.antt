-- How far a list of directions has come. No public clause cites this module.
use Rattle.std.specs.Prelude.{◌≡◌, ℕ, List, ◌++◌, Option, None, Result}
use Rattle.std.specs.List.{flat_map}
use Rattle.net_prefix.specs.declared.addr.Addr.{Addr}
use Rattle.watched.specs.Streams.{Writing, Writes}
use Rattle.watched.specs.declared.sink.WriterFailed.{WriterFailed}
use Rattle.reference_machine.specs.Network.{Network}
use Rattle.converge_text.specs.Answers.{count_of, waiting_line, AreWaiting}

-- the directions up to this one were listed, so many
pub record AreListedTo (s : Network) (past : Option (Addr × Addr)) (count : ℕ) (o : Writing)
    (written : Result (Unit {0}) WriterFailed) (o' : Writing) : Type 0 where
  pub directions : List (Addr × Addr)
  pub onward : (rest : List (Addr × Addr)) → AreWaiting s past rest → AreWaiting s None (directions ++ rest)
  pub count_is : count ≡ count_of directions
  pub lines : Writes o (flat_map (waiting_line s) directions) written o'
