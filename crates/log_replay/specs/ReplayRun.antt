-- What it means to replay a log as a program does: its line, its exit status, and what is told of a fault (own).
use Rattle.std.specs.Prelude.{◌≡◌, ◌⊎◌, ℕ, ◌+◌, ◌++◌, true, false, List, codes, Option, IfSome, Result, Ok, Err}
use Rattle.std.specs.Fmt.{decimal}
use Rattle.std.specs.Io.KnownBytes.{Appends}
use Rattle.watched.specs.Streams.{Reading, Writing, AppendsFront}
use Rattle.reply_text.specs.Replies.{line_end}
use Rattle.reply_text.specs.declared.ending.RunFault.{RunFault}
use Rattle.reply_text.specs.declared.ending.RunFault.TheVariants.{LineUnread, Unwritten, NoMemory}
use Rattle.reply_text.specs.Ending.{success, disagrees, write_fault, fault_status, fault_text, IsTold}
use Rattle.log_replay.specs.Replaying.{IsReplay, is_read_fault, most_lines}
use Rattle.log_replay.specs.Exactness.{IsProof, IsFair}
use Rattle.log_replay.specs.declared.verdict.Replayed.{Replayed}
use Rattle.log_replay.specs.declared.verdict.Replayed.TheVariants.{Agrees, Differs, BadLine}
use Rattle.log_replay.specs.declared.verdict.ReplayFault.{ReplayFault}
use Rattle.log_replay.specs.declared.verdict.ReplayFault.TheVariants.{Read, TooManyLines, Memory}

-- the line of what a log is found to be
abbrev pub found_text : Replayed → List ℕ
found_text (Agrees n) = codes "ok " ++ decimal n ++ line_end
found_text (Differs line) = codes "differs at line " ++ decimal line ++ line_end
found_text (BadLine line) = codes "bad line " ++ decimal line ++ line_end

-- how a fault of replaying ends the run: one line too many is not read
abbrev pub run_fault : ReplayFault → RunFault
run_fault (Read line) = LineUnread line
run_fault TooManyLines = LineUnread (most_lines + 1)
run_fault Memory = NoMemory

-- the exit status
abbrev pub replay_status : Result Replayed ReplayFault → ℕ
replay_status (Ok (Agrees n)) = success
replay_status (Ok (Differs line)) = disagrees
replay_status (Ok (BadLine line)) = disagrees
replay_status (Err fault) = fault_status (run_fault fault)

-- the line was written, and nothing was told; or the writer failed, after a front of the line, and that was told
abbrev pub IsAnswered : Replayed → Writing → Writing → ℕ → Writing → Writing → Type 0
IsAnswered found o errors status o' errors' =
    ((status ≡ replay_status (Ok found)) × (o'.failed ≡ false) × Appends o.written o'.written (found_text found)
    × (errors' ≡ errors))
    ⊎ ((status ≡ write_fault) × (o'.failed ≡ true) × AppendsFront o.written o'.written (found_text found)
    × IsTold errors (fault_text Unwritten) errors')

-- what the log is found to be was answered; or nothing was written, and the fault was told
abbrev pub IsEnding : Result Replayed ReplayFault → Writing → Writing → ℕ → Writing → Writing → Type 0
IsEnding (Ok found) o errors status o' errors' = IsAnswered found o errors status o' errors'
IsEnding (Err fault) o errors status o' errors' = (status ≡ replay_status (Err fault)) × (o' ≡ o)
    × IsTold errors (fault_text (run_fault fault)) errors'

-- a log was replayed, as far as its bytes are known: where it is found to agree it is the log of a legal history, and
-- each such log is; the reader failed just where that was the fault; and what was found is how it ended
abbrev pub IsReplayRun : Option (List ℕ) → Writing → Writing → ℕ → Reading → Writing → Writing → Type 0
IsReplayRun bytes o errors status i' o' errors' = (found : Result Replayed ReplayFault)
    × IfSome bytes (λ known. IsReplay known found i' × IsProof known found × IsFair known found)
    × (i'.failed ≡ is_read_fault found) × IsEnding found o errors status o' errors'
