-- How a team ends.
use Rattle.std.proofs.Common.{◌≡◌, List, [], ◌∷◌, ℕ, Bool, false, map, refl, sym, subst, inl, inr, string_bytes}
use Rattle.watched.specs.Streams.{Writing}
use Rattle.reply_text.specs.declared.ending.RunFault.{RunFault}
use Rattle.reply_text.specs.declared.ending.RunFault.TheVariants.{LineUnread, FileUnread, Unwritten, NoMemory, BookDiffers}
use Rattle.reply_text.specs.Ending.{success, fault_status, fault_text, IsTold}
use Rattle.sim_event.specs.declared.entry.Entry.{Entry}
use Rattle.script_files.specs.Sources.{FileBook}
use Rattle.script_files.specs.Scripts.{IsReadingFault}
use Rattle.room.specs.Books.{SeatBook}
use Rattle.team_run.specs.Playing.{IsOfBooks, IsOfPlay, notes_of}
use Rattle.team_run.specs.declared.told.ToldLine.{ToldLine}
use Rattle.team_run.specs.TeamRun.{AreTold, AreToldLast, IsFrontOf, IsLogOf, IsPlayed, IsTeamHistory, IsTeamRun, told_text}
use Rattle.team_run.proofs.Telling.{told_more}

-- its scripts were not read
unread_status : (files left : List FileBook) (workers turns : ℕ) (is_terminal : Bool) (o errors : Writing)
    (fault : RunFault) (errors' : Writing) → IsReadingFault files left fault → IsTold errors (fault_text fault) errors' →
    IsTeamRun files left workers turns is_terminal o errors (fault_status fault) o errors'
unread_status files left workers turns is_terminal o errors (FileUnread name) errors' h told =
    inr (inl (refl, refl, string_bytes name, h, told))
unread_status files left workers turns is_terminal o errors NoMemory errors' h told = inr (inr (refl, refl, told))
unread_status files left workers turns is_terminal o errors (LineUnread line) errors' h told = absurd h
unread_status files left workers turns is_terminal o errors Unwritten errors' h told = absurd h
unread_status files left workers turns is_terminal o errors BookDiffers errors' h told = absurd h

pub unread : (files left : List FileBook) (workers turns : ℕ) (is_terminal : Bool) (o errors : Writing)
    (fault : RunFault) (status : ℕ) (errors' : Writing)
    → IsReadingFault files left fault → IsTold errors (fault_text fault) errors' → status ≡ fault_status fault →
    IsTeamRun files left workers turns is_terminal o errors status o errors'
unread files left workers turns is_terminal o errors fault status errors' h told is =
    subst (λ n. IsTeamRun files left workers turns is_terminal o errors n o errors') (sym is)
    (unread_status files left workers turns is_terminal o errors fault errors' h told)

-- there is no record, as the books differ
pub of_play : (seats : List SeatBook) (fault : RunFault) → IsOfBooks seats fault → IsOfPlay fault
of_play seats BookDiffers h = (map notes_of seats, h)
of_play seats NoMemory h = absurd h
of_play seats (FileUnread name) h = absurd h
of_play seats (LineUnread line) h = absurd h
of_play seats Unwritten h = absurd h

-- one text was told, last
told_last : (is_terminal : Bool) (errors before : Writing) (text : List ℕ) (errors' : Writing)
    → (is_terminal ≡ false → before ≡ errors) → IsTold before text errors' →
    AreToldLast is_terminal errors (text ∷ []) errors'
told_last is_terminal errors before text errors' nothing told =
    record { before = before; nothing_else = nothing; told = (errors', told, refl) }

-- nothing was written
broken_status : (scripts : List (List ℕ)) (workers turns : ℕ) (is_terminal : Bool) (o errors before : Writing)
    (fault : RunFault) (errors' : Writing)
    → IsOfPlay fault → (is_terminal ≡ false → before ≡ errors) → IsTold before (fault_text fault) errors' →
    IsPlayed scripts workers turns is_terminal o errors (fault_status fault) o errors'
broken_status scripts workers turns is_terminal o errors before NoMemory errors' h nothing told =
    inr (inr (refl, (refl, inl (told_last is_terminal errors before (fault_text NoMemory) errors' nothing told))))
broken_status scripts workers turns is_terminal o errors before BookDiffers errors' h nothing told =
    inr (inr (refl, (refl, inr (h, told_last is_terminal errors before (fault_text BookDiffers) errors' nothing told))))
broken_status scripts workers turns is_terminal o errors before (FileUnread name) errors' h nothing told = absurd h
broken_status scripts workers turns is_terminal o errors before (LineUnread line) errors' h nothing told = absurd h
broken_status scripts workers turns is_terminal o errors before Unwritten errors' h nothing told = absurd h

pub broken : (scripts : List (List ℕ)) (workers turns : ℕ) (is_terminal : Bool) (o errors before : Writing)
    (fault : RunFault) (status : ℕ) (errors' : Writing)
    → IsOfPlay fault → (is_terminal ≡ false → before ≡ errors) → IsTold before (fault_text fault) errors' →
    status ≡ fault_status fault → IsPlayed scripts workers turns is_terminal o errors status o errors'
broken scripts workers turns is_terminal o errors before fault status errors' h nothing told is =
    subst (λ n. IsPlayed scripts workers turns is_terminal o errors n o errors') (sym is)
    (broken_status scripts workers turns is_terminal o errors before fault errors' h nothing told)

-- the log was written
pub logged : (scripts : List (List ℕ)) (workers turns : ℕ) (is_terminal : Bool) (o errors before : Writing)
    (history : List Entry) (told : List ToldLine) (o' errors' : Writing)
    → IsTeamHistory scripts workers turns history told → IsLogOf history o o'
    → (is_terminal ≡ false → before ≡ errors) → AreTold before (map told_text told) errors' →
    IsPlayed scripts workers turns is_terminal o errors success o' errors'
logged scripts workers turns is_terminal o errors before history told o' errors' team log nothing texts = inl (
  refl,
  record {
    history = history;
    told = told;
    team = team;
    log = log;
    texts = record { before = before; nothing_else = nothing; told = texts };
  },
)

-- the log was cut off
pub cut_off : (scripts : List (List ℕ)) (workers turns : ℕ) (is_terminal : Bool) (o errors before now : Writing)
    (history : List Entry) (told : List ToldLine) (fault : RunFault) (status : ℕ) (o' errors' : Writing)
    → IsTeamHistory scripts workers turns history told → (fault ≡ Unwritten) × IsFrontOf history o o'
    → (is_terminal ≡ false → before ≡ errors) → AreTold before (map told_text told) now
    → IsTold now (fault_text fault) errors' → status ≡ fault_status fault →
    IsPlayed scripts workers turns is_terminal o errors status o' errors'
cut_off scripts workers turns is_terminal o errors before now history told fault status o' errors' team front nothing texts last is =
    let is_status : status ≡ fault_status Unwritten = subst (λ f. status ≡ fault_status f) front.0 is in
    let is_told : IsTold now (fault_text Unwritten) errors' =
    subst (λ f. IsTold now (fault_text f) errors') front.0 last in
    inr (inl (
      is_status,
      record {
        history = history;
        told = told;
        team = team;
        front = front.1;
        texts = record {
          before = before;
          nothing_else = nothing;
          told = told_more before now errors' (map told_text told) (fault_text Unwritten) texts is_told;
        };
      },
    ))
