-- What it means to run a script: its exit status, and what is told of a fault (own).
use Rattle.std.specs.Prelude.{◌≡◌, ℕ, true, List, [], Option, IfSome, Result, Ok, Err}
use Rattle.watched.specs.Streams.{Reading, Writing}
use Rattle.reference_machine.specs.Network.{Network}
use Rattle.reference_machine.specs.Machine.{nothing}
use Rattle.reply_text.specs.declared.ending.RunFault.{RunFault}
use Rattle.reply_text.specs.declared.ending.RunFault.TheVariants.{LineUnread, Unwritten}
use Rattle.reply_text.specs.Ending.{success, fault_status, fault_text, IsTold}
use Rattle.line_serving.specs.Serving.{Answers, IsServing, is_read_fault, is_write_fault}
use Rattle.line_serving.specs.declared.fault.ServeFault.{ServeFault}
use Rattle.line_serving.specs.declared.fault.ServeFault.TheVariants.{Read, Write}
use Rattle.sim_text.specs.Serving.{IsAnswer}

-- how a fault of serving ends the run
abbrev pub run_fault : ServeFault → RunFault
run_fault (Read line) = LineUnread line
run_fault (Write line) = Unwritten

-- the exit status
abbrev pub status_of : Result ℕ ServeFault → ℕ
status_of (Ok lines) = success
status_of (Err fault) = fault_status (run_fault fault)

-- what is told on the third stream: nothing where the script was served to its end
abbrev pub told : Result ℕ ServeFault → List ℕ
told (Ok lines) = []
told (Err fault) = fault_text (run_fault fault)

-- a script was served, from the one state to the other, as far as its bytes are known; the status tells how serving
-- ended; the writer failed just where that was a fault of writing, and the reader only where it was one of reading; and
-- a fault was told
abbrev pub IsRunOf : {S : Type 0} → Answers S → S → Option (List ℕ) → Writing → Writing → ℕ → S → Reading → Writing →
    Writing → Type 0
IsRunOf answers start bytes o errors status end i' o' errors' = (served : Result ℕ ServeFault)
    × (status ≡ status_of served) × IfSome bytes (λ known. IsServing answers known start o served end o' i')
    × (o'.failed ≡ is_write_fault served) × (i'.failed ≡ true → is_read_fault served ≡ true)
    × IsTold errors (told served) errors'

-- so was one in the language of commands, from the empty network to this one
abbrev pub IsScriptRun : Option (List ℕ) → Writing → Writing → ℕ → Network → Reading → Writing → Writing → Type 0
IsScriptRun bytes o errors status end i' o' errors' = IsRunOf IsAnswer nothing bytes o errors status end i' o' errors'
