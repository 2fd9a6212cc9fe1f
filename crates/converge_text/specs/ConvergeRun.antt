-- What it means to run a script in which messages may be delivered until none waits, and networks kept (own).
use Rattle.std.specs.Prelude.{ℕ, List, Option}
use Rattle.watched.specs.Streams.{Reading, Writing}
pub use Rattle.convergence.specs.Kept.{Kept}
use Rattle.convergence.specs.Kept.{nothing_kept}
use Rattle.sim_text.specs.ScriptRun.{IsRunOf}
use Rattle.converge_text.specs.Answers.{IsAnswer}

-- a script was served, from the empty network and no snapshot to these, as a script of commands is
abbrev pub IsConvergeRun : Option (List ℕ) → Writing → Writing → ℕ → Kept → Reading → Writing → Writing → Type 0
IsConvergeRun bytes o errors status end i' o' errors' = IsRunOf IsAnswer nothing_kept bytes o errors status end i' o' errors'
