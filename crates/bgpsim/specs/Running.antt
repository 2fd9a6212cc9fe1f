-- What the program does: what the words of its command line ask for, on three streams, and with which exit status
-- (own).
use Rattle.std.specs.Prelude.{◌≡◌, ◌⊎◌, ℕ, Bool, false, List, [], map, Result, Ok, Err, IfOk, MatchResult}
use Rattle.clap.specs.Words.{Text, FailsBy, fault_of, kind_of}
use Rattle.clap.specs.declared.error.Error.{Error}
use Rattle.clap.specs.declared.error.kind.ErrorKind.{ErrorKind}
use Rattle.clap.specs.declared.error.kind.ErrorKind.TheVariants.{OutOfMemory, DisplayHelp, DisplayVersion}
use Rattle.watched.specs.Streams.{Reading, Writing}
use Rattle.reference_machine.specs.Network.{Network}
use Rattle.reply_text.specs.declared.ending.RunFault.{RunFault}
use Rattle.reply_text.specs.declared.ending.RunFault.TheVariants.{NoMemory, Unwritten}
use Rattle.reply_text.specs.Ending.{success, mistaken, fault_status, fault_text, IsTold}
use Rattle.sim_text.specs.ScriptRun.{IsScriptRun}
use Rattle.converge_text.specs.ConvergeRun.{Kept, IsConvergeRun}
use Rattle.log_replay.specs.ReplayRun.{IsReplayRun}
use Rattle.script_files.specs.Sources.{FileBook}
use Rattle.team_run.specs.TeamRun.{IsTeamRun}
use Rattle.command_line.specs.CommandLine.{commands, Chooses}
use Rattle.command_line.specs.declared.Choice.{Choice}
use Rattle.command_line.specs.declared.Choice.TheVariants.{Script, Converge, Replay, ForTeam}

-- ---- where nothing is asked for that is run

-- the exit status where help, the version or a mistake is printed; want of memory is a fault
abbrev pub shown_by : ErrorKind → Result ℕ RunFault
shown_by OutOfMemory = Err NoMemory
shown_by DisplayHelp = Ok success
shown_by DisplayVersion = Ok success
shown_by _ = Ok mistaken

-- so it was; or help or the version could not be written
abbrev pub IsPrinted : ErrorKind → Result ℕ RunFault → Type 0
IsPrinted kind shown = (shown ≡ shown_by kind) ⊎ ((shown_by kind ≡ Ok success) × (shown ≡ Err Unwritten))

abbrev pub shown_status : Result ℕ RunFault → ℕ
shown_status (Ok status) = status
shown_status (Err fault) = fault_status fault

-- what is told of a fault, if there is one
abbrev pub shown_text : Result ℕ RunFault → List ℕ
shown_text (Ok status) = []
shown_text (Err fault) = fault_text fault

-- it was printed, and a fault was told
abbrev pub IsShown : ErrorKind → Writing → ℕ → Writing → Type 0
IsShown kind errors status errors' = (shown : Result ℕ RunFault) × IsPrinted kind shown
    × (status ≡ shown_status shown) × IsTold errors (shown_text shown) errors'

-- ---- where something is

-- all that was written was sent on, unless the writer failed
abbrev pub IsSentOn : Writing → Type 0
IsSentOn o' = o'.failed ≡ false → o'.held ≡ false

-- a script was run, which left the machine in some network; all replies were sent on
abbrev pub IsServed : Reading → Writing → Writing → ℕ → Reading → Writing → Writing → Type 0
IsServed i o errors status i' o' errors' = IsSentOn o' × (end : Network)
    × IsScriptRun i.remaining o errors status end i' o' errors'

-- the same of a script in which messages may be delivered until none waits
abbrev pub IsServedByConverge : Reading → Writing → Writing → ℕ → Reading → Writing → Writing → Type 0
IsServedByConverge i o errors status i' o' errors' = IsSentOn o' × (end : Kept)
    × IsConvergeRun i.remaining o errors status end i' o' errors'

-- a log was replayed; what it was found to be was sent on
abbrev pub IsReplayed : Reading → Writing → Writing → ℕ → Reading → Writing → Writing → Type 0
IsReplayed i o errors status i' o' errors' = IsSentOn o' × IsReplayRun i.remaining o errors status i' o' errors'

-- the files of these names, in their order
abbrev pub AreNamed : List Text → List FileBook → Type 0
AreNamed names files = map (λ (file : FileBook). file.name) files ≡ names

-- a team was run on the files of these names, of which something is left, by so many workers, each with so many turns;
-- nothing else was read. Whether the errors are told to a terminal is known
pub record IsTeamPlayed (names : List Text) (workers turns : ℕ) (is_terminal : Bool) (i : Reading) (o errors : Writing)
    (status : ℕ) (i' : Reading) (o' errors' : Writing) : Type 0 where
  pub files : List FileBook
  pub left : List FileBook
  pub named : AreNamed names files
  pub run : IsTeamRun files left workers turns is_terminal o errors status o' errors'
  pub unread : i' ≡ i

-- what was asked for was run. A team alone asks whether the errors are told to a terminal
abbrev pub IsRunOf : Choice → Bool → Reading → Writing → Writing → ℕ → Reading → Writing → Writing → Type 0
IsRunOf Script is_terminal i o errors status i' o' errors' = IsServed i o errors status i' o' errors'
IsRunOf Converge is_terminal i o errors status i' o' errors' = IsServedByConverge i o errors status i' o' errors'
IsRunOf Replay is_terminal i o errors status i' o' errors' = IsReplayed i o errors status i' o' errors'
IsRunOf (ForTeam team) is_terminal i o errors status i' o' errors' =
    IsTeamPlayed (map (λ file. file.now) team.files.items) team.workers team.turns is_terminal i o errors status
    i' o' errors'

-- ---- the program

-- nothing was read, nor written where a run writes, and why nothing is run was shown
abbrev pub IsRefused : ErrorKind → Reading → Writing → Writing → ℕ → Reading → Writing → Writing → Type 0
IsRefused kind i o errors status i' o' errors' = (i' ≡ i) × (o' ≡ o) × IsShown kind errors status errors'

-- the words were read as the commands are: what they ask for was run; or they have a fault, or memory ran out before
-- anything of it began, and that was shown
abbrev pub IsProgramRun : List Text → Bool → Reading → Writing → Writing → ℕ → Reading → Writing → Writing → Type 0
IsProgramRun words is_terminal i o errors status i' o' errors' = (chosen : Result Choice Error)
    × FailsBy (fault_of commands words) chosen × IfOk chosen (Chooses words)
    × MatchResult chosen (λ choice. IsRunOf choice is_terminal i o errors status i' o' errors')
    (λ error. IsRefused (kind_of error) i o errors status i' o' errors')
