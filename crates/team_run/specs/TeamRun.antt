-- What it means to run a team: whose calls its log holds, its exit status, and what is told (own).
use Rattle.std.specs.Prelude.{◌≡◌, ◌≢◌, ◌⊎◌, ℕ, ◌+◌, ◌<◌, ◌≤◌, ◌%◌, Bool, true, false, List, [], ◌∷◌, ◌++◌, map, length, codes, slice_get, count_by, nat_eq, All, Some}
use Rattle.std.specs.Fmt.{decimal}
use Rattle.std.specs.List.{AllByRecursion}
use Rattle.std.specs.Str.Lines.{lines}
use Rattle.std.specs.Io.KnownBytes.{Appends}
use Rattle.watched.specs.Streams.{Writing, AppendsFront}
use Rattle.net_conf.specs.declared.refusal.Refusal.{Refusal}
use Rattle.net_conf.specs.declared.refusal.Refusal.TheVariants.{Syntax, Memory}
use Rattle.sim_event.specs.declared.entry.Entry.{Entry}
use Rattle.sim_event.specs.declared.entry.Call.{Call}
use Rattle.sim_event.specs.declared.event.Event.{Event}
use Rattle.sim_event.specs.declared.event.Event.TheVariants.{Deliver}
use Rattle.net_prefix.specs.declared.addr.Addr.{Addr}
use Rattle.command_text.specs.Lines.{IsSilent, IsFault, Means}
use Rattle.reference_machine.specs.Histories.{IsLegal, calls_of}
use Rattle.reply_text.specs.Replies.{refusal_text}
use Rattle.reply_text.specs.declared.ending.RunFault.TheVariants.{Unwritten, NoMemory, BookDiffers}
use Rattle.reply_text.specs.Ending.{success, read_fault, write_fault, no_memory, fault_text, unread_text, IsTold, IsWithoutMemory}
use Rattle.log_text.specs.Logs.{log_text}
use Rattle.script_files.specs.Sources.{FileBook, AreRead, IsFirstUnread}
use Rattle.team_run.specs.declared.told.ToldLine.{ToldLine}

-- ---- whose calls the log holds, and which lines make none

-- why a line makes no call: it spells no event; or there was no memory for the event that it means
abbrev pub IsUncalled : List ℕ → Refusal → Type 0
IsUncalled line Syntax = IsFault line
IsUncalled line Memory = (event : Event) × Means line event
IsUncalled line _ = ⊥

-- the calls of lines, the first of which has this number in the file, and what is told of those that make none, both in
-- the order of the lines: nothing comes of a line that is blank or a comment; each other one makes the call of the event
-- that it means, or is told with why it makes none
abbrev pub AreCalled : ℕ → ℕ → List (List ℕ) → List Call → List ToldLine → Type 0
AreCalled file number [] calls told = (calls ≡ []) × (told ≡ [])
AreCalled file number (line ∷ more) calls told =
    (IsSilent line × AreCalled file (number + 1) more calls told)
    ⊎ (((first : Call) × (rest : List Call) × (calls ≡ first ∷ rest) × Means line first.event
    × AreCalled file (number + 1) more rest told)
    ⊎ ((refusal : Refusal) × (rest : List ToldLine)
    × (told ≡ record { file = file; line = number; refusal = refusal } ∷ rest) × IsUncalled line refusal
    × AreCalled file (number + 1) more calls rest))

-- the calls of the seats, from the one of this number on, are those of the scripts' lines; and what is told of the lines
-- that make none, script by script. Files count from 1, as lines do
abbrev pub AreOfScripts : ℕ → List (List ℕ) → List Entry → List ToldLine → Type 0
AreOfScripts seat [] history told = told ≡ []
AreOfScripts seat (script ∷ more) history told = (first : List ToldLine) × (rest : List ToldLine)
    × (told ≡ first ++ rest) × AreCalled (seat + 1) 1 (lines script) (calls_of seat history) first
    × AreOfScripts (seat + 1) more history rest

-- the call is a delivery to a receiver of the shard: the receiver's address, modulo the shards
abbrev pub IsDeliveryTo : ℕ → ℕ → Call → Type 0
IsDeliveryTo shard shards call = (from : Addr) × (to : Addr) × (call.event ≡ Deliver from to)
    × (to.0 % shards ≡ shard)

-- the calls of a worker: no more than it has turns, each a delivery to a receiver of its shard
pub record IsOfWorker (shard shards turns : ℕ) (calls : List Call) : Type 0 where
  pub most : length calls ≤ turns
  pub deliveries : All (IsDeliveryTo shard shards) calls

-- the seats behind those of the engineers are the workers': each serves a shard of its own, of as many as there are
-- workers
abbrev pub AreOfWorkers : ℕ → ℕ → ℕ → List Entry → Type 0
AreOfWorkers engineers workers turns history = (worker : ℕ) → worker < workers →
    IsOfWorker worker workers turns (calls_of (engineers + worker) history)

-- a legal history, in which the seats from 0 on call the scripts, but for the lines that are told, and the workers behind
-- them deliver
pub record IsTeamHistory (scripts : List (List ℕ)) (workers turns : ℕ) (history : List Entry)
    (told : List ToldLine) : Type 0 where
  pub legal : IsLegal history
  pub called : AreOfScripts 0 scripts history told
  pub delivered : AreOfWorkers (length scripts) workers turns history

-- ---- what was written

-- the log of the history was written, whole, and sent on
pub record IsLogOf (history : List Entry) (o o' : Writing) : Type 0 where
  pub written : Appends o.written o'.written (log_text history)
  pub calm : o'.failed ≡ false
  pub sent : o'.held ≡ false

-- the writer failed, after a front of the log of the history
pub record IsFrontOf (history : List Entry) (o o' : Writing) : Type 0 where
  pub written : AppendsFront o.written o'.written (log_text history)
  pub failed : o'.failed ≡ true

-- ---- what was told

-- of a line that makes no call: the file and the line, and the refusal as a script's reply tells it
abbrev pub told_text : ToldLine → List ℕ
told_text told = codes "file " ++ decimal told.file ++ codes " line " ++ decimal told.line ++ codes ": "
    ++ refusal_text told.refusal

-- the texts were told, one after another; where one was not told whole, those behind it were told all the same
abbrev pub AreTold : Writing → List (List ℕ) → Writing → Type 0
AreTold errors [] errors' = errors' ≡ errors
AreTold errors (text ∷ more) errors' = (next : Writing) × IsTold errors text next × AreTold next more errors'

-- the texts were told: nothing else, unless at a terminal, where other texts may stand before them
pub record AreToldLast (is_terminal : Bool) (errors : Writing) (texts : List (List ℕ)) (errors' : Writing) : Type 0 where
  pub before : Writing
  pub nothing_else : is_terminal ≡ false → before ≡ errors
  pub told : AreTold before texts errors'

-- ---- how it ends

-- a seat: its number, and its notes
abbrev pub Notes : Type 0
Notes = ℕ × List Call

-- the notes are not the calls of the seat in a legal history
pub record HasOtherCalls (seat : Notes) : Type 0 where
  pub history : List Entry
  pub legal : IsLegal history
  pub other : calls_of seat.0 history ≢ seat.1

-- the seats are those of a room of so many, with this history: each number below the count is there once, and the notes
-- are the calls
pub record AreComplete (count : ℕ) (history : List Entry) (seats : List Notes) : Type 0 where
  pub as_many : length seats ≡ count
  pub once : (number : ℕ) → number < count → count_by (λ (seat : Notes). nat_eq seat.0 number) seats ≡ 1
  pub calls : AllByRecursion (λ (seat : Notes). calls_of seat.0 history ≡ seat.1) seats

-- the books of the seats that came back differ: one has other calls; or they are not those of a room
abbrev pub HaveOtherBooks : List Notes → Type 0
HaveOtherBooks seats =
    ((place : ℕ) × (seat : Notes) × (slice_get seats place ≡ Some seat) × HasOtherCalls seat)
    ⊎ ((count : ℕ) × (history : List Entry) × (AreComplete count history seats → ⊥))

-- the log of a team's history was written, and it was told of the lines that make no call
pub record IsLogged (scripts : List (List ℕ)) (workers turns : ℕ) (is_terminal : Bool)
    (o errors o' errors' : Writing) : Type 0 where
  pub history : List Entry
  pub told : List ToldLine
  pub team : IsTeamHistory scripts workers turns history told
  pub log : IsLogOf history o o'
  pub texts : AreToldLast is_terminal errors (map told_text told) errors'

-- it was cut off, which was told, too, last
pub record IsCutOff (scripts : List (List ℕ)) (workers turns : ℕ) (is_terminal : Bool)
    (o errors o' errors' : Writing) : Type 0 where
  pub history : List Entry
  pub told : List ToldLine
  pub team : IsTeamHistory scripts workers turns history told
  pub front : IsFrontOf history o o'
  pub texts : AreToldLast is_terminal errors (map told_text told ++ fault_text Unwritten ∷ []) errors'

-- there was no memory, or the books differ: nothing was written, and this was told
abbrev pub IsBroken : Bool → Writing → Writing → Writing → Writing → Type 0
IsBroken is_terminal o errors o' errors' = (o' ≡ o)
    × (AreToldLast is_terminal errors (fault_text NoMemory ∷ []) errors'
    ⊎ (((seats : List Notes) × HaveOtherBooks seats)
    × AreToldLast is_terminal errors (fault_text BookDiffers ∷ []) errors'))

-- scripts that were read were played, with so many workers, each with so many turns: the log was written; or it was cut
-- off; or nothing was written
abbrev pub IsPlayed : List (List ℕ) → ℕ → ℕ → Bool → Writing → Writing → ℕ → Writing → Writing → Type 0
IsPlayed scripts workers turns is_terminal o errors status o' errors' =
    ((status ≡ success) × IsLogged scripts workers turns is_terminal o errors o' errors')
    ⊎ (((status ≡ write_fault) × IsCutOff scripts workers turns is_terminal o errors o' errors')
    ⊎ ((status ≡ no_memory) × IsBroken is_terminal o errors o' errors'))

-- nothing was written, since a file was not read, the first such, and that alone was told
abbrev pub IsUnread : List FileBook → List FileBook → Writing → Writing → ℕ → Writing → Writing → Type 0
IsUnread files left o errors status o' errors' = (status ≡ read_fault) × (o' ≡ o) × (name : List ℕ)
    × IsFirstUnread files left name × IsTold errors (unread_text name) errors'

-- a team was run on files, of which this is left: its scripts were read and played, or not all were read, or there was
-- no memory for them. Whether the errors are told to a terminal is known
abbrev pub IsTeamRun : List FileBook → List FileBook → ℕ → ℕ → Bool → Writing → Writing → ℕ → Writing → Writing →
    Type 0
IsTeamRun files left workers turns is_terminal o errors status o' errors' =
    ((scripts : List (List ℕ)) × AreRead files scripts
    × IsPlayed scripts workers turns is_terminal o errors status o' errors')
    ⊎ (IsUnread files left o errors status o' errors' ⊎ IsWithoutMemory o errors status o' errors')
