-- Which logs agree: those of legal histories, and no other.
use Rattle.std.specs.Prelude.{◌≡◌, ℕ, ◌≤◌, List, length, Result, Ok, Err}
use Rattle.std.specs.List.{AllByRecursion}
use Rattle.sim_event.specs.declared.entry.Entry.{Entry}
use Rattle.reference_machine.specs.Histories.{IsLegal}
use Rattle.log_text.specs.declared.version.Version.{Version}
use Rattle.log_text.specs.Logs.{log_of}
use Rattle.log_replay.specs.Replaying.{IsCall, IsFit, lines_text, most_lines}
use Rattle.log_replay.specs.declared.verdict.Replayed.{Replayed}
use Rattle.log_replay.specs.declared.verdict.Replayed.TheVariants.{Agrees}
use Rattle.log_replay.specs.declared.verdict.ReplayFault.{ReplayFault}
use Rattle.log_replay.specs.declared.verdict.ReplayFault.TheVariants.{Read, TooManyLines, Memory}

-- a legal history whose calls a log of the version may hold
abbrev pub IsLogged : Version → List Entry → Type 0
IsLogged v h = IsLegal h × AllByRecursion (λ e. IsCall v e.seat e.event) h

-- no more lines than a log may have, none too long, each with its line feed
abbrev pub AreLogLines : List ℕ → Type 0
AreLogLines bytes = (ls : List (List ℕ)) × (bytes ≡ lines_text ls) × AllByRecursion IsFit ls × (length ls ≤ most_lines)

-- the bytes are the log, of either version, of a legal history of n calls, within the limits
abbrev pub IsLogOf : List ℕ → ℕ → Type 0
IsLogOf bytes n = (v : Version) × (h : List Entry) × IsLogged v h × (length h ≡ n) × (bytes ≡ log_of v h)
    × AreLogLines bytes

-- where the answer is that the log agrees, it is such a log
abbrev pub IsProof : List ℕ → Result Replayed ReplayFault → Type 0
IsProof bytes (Ok (Agrees n)) = IsLogOf bytes n
IsProof bytes _ = Unit {0}

-- where it is such a log, the answer is that it agrees, unless the reader failed or memory was wanted
abbrev pub IsFair : List ℕ → Result Replayed ReplayFault → Type 0
IsFair bytes (Ok verdict) = (n : ℕ) → IsLogOf bytes n → verdict ≡ Agrees n
IsFair bytes (Err (Read line)) = Unit {0}
IsFair bytes (Err TooManyLines) = (n : ℕ) → IsLogOf bytes n → ⊥
IsFair bytes (Err Memory) = Unit {0}
