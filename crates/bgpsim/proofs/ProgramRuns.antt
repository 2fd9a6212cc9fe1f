-- What makes a run of the program.
use Rattle.std.proofs.Common.{◌≡◌, ℕ, Bool, List, Ok, Err, subst}
use Rattle.clap.specs.Words.{Text, FailsBy, HasKind, fault_of, kind_of}
use Rattle.clap.specs.declared.error.Error.{Error}
use Rattle.watched.specs.Streams.{Reading, Writing}
use Rattle.script_files.specs.Sources.{FileBook}
use Rattle.team_run.specs.TeamRun.{IsTeamRun}
use Rattle.command_line.specs.CommandLine.{commands, Chooses}
use Rattle.command_line.specs.declared.Choice.{Choice}
use Rattle.bgpsim.specs.Running.{AreNamed, IsProgramRun, IsRunOf, IsShown, IsTeamPlayed}

-- a team that was run on its files
pub played : (names : List Text) (workers turns : ℕ) (is_terminal : Bool) (files left : List FileBook) (i : Reading)
    (o errors : Writing) (status : ℕ) (i' : Reading) (o' errors' : Writing)
    → AreNamed names files → IsTeamRun files left workers turns is_terminal o errors status o' errors' → i' ≡ i →
    IsTeamPlayed names workers turns is_terminal i o errors status i' o' errors'
played names workers turns is_terminal files left i o errors status i' o' errors' named run unread =
    record { files = files; left = left; named = named; run = run; unread = unread }

-- what the words ask for was run
pub begun : (words : List Text) (choice : Choice) (is_terminal : Bool) (i : Reading) (o errors : Writing) (status : ℕ)
    (i' : Reading) (o' errors' : Writing)
    → FailsBy {T = Choice} (fault_of commands words) (Ok choice) → Chooses words choice
    → IsRunOf choice is_terminal i o errors status i' o' errors' →
    IsProgramRun words is_terminal i o errors status i' o' errors'
begun words choice is_terminal i o errors status i' o' errors' free chooses run = (Ok choice, free, chooses, run)

-- nothing was read or written before it was shown that nothing is run
pub shown : (words : List Text) (error : Error) (is_terminal : Bool) (i : Reading) (o errors told : Writing)
    (status : ℕ) (i' : Reading) (o' errors' : Writing)
    → HasKind (fault_of commands words) error → i' ≡ i → o' ≡ o → told ≡ errors →
    IsShown (kind_of error) told status errors' → IsProgramRun words is_terminal i o errors status i' o' errors'
shown words error is_terminal i o errors told status i' o' errors' kind unread unwritten untold is = (
  Err error,
  kind,
  tt,
  (unread, unwritten, subst (λ (x : Writing). IsShown (kind_of error) x status errors') untold is),
)
