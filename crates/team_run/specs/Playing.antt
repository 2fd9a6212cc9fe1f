-- No public contract cites this file. Engineers, who call the lines of their scripts from their seats.
use Rattle.std.specs.Prelude.{◌≡◌, ◌⊎◌, ⊤, ℕ, ◌+◌, false, List, [], ◌∷◌, ◌++◌, map, flat_map, slice_get, Option, Some, None, option_map}
use Rattle.std.specs.List.{AllZip}
use Rattle.std.specs.Str.Lines.{lines}
use Rattle.net_conf.specs.declared.refusal.Refusal.{Refusal}
use Rattle.sim_event.specs.declared.entry.Call.{Call}
use Rattle.sim_event.specs.declared.event.Event.{Event}
use Rattle.sim_event.specs.declared.reply.Reply.{Reply}
use Rattle.command_text.specs.Lines.{IsSilent, Means}
use Rattle.reply_text.specs.declared.ending.RunFault.{RunFault}
use Rattle.reply_text.specs.declared.ending.RunFault.TheVariants.{NoMemory, BookDiffers}
use Rattle.room.specs.Books.{SeatBook, is_memory, with_call}
use Rattle.desk.specs.Desks.{AllWorked, IsUnlike}
use Rattle.team_run.specs.declared.told.ToldLine.{ToldLine}
use Rattle.team_run.specs.TeamRun.{Notes, AreCalled, IsUncalled, HaveOtherBooks}

-- an engineer: the number of the file, from 1 on, its script, and the seat
pub record Engineering : Type 0 where
  pub file : ℕ
  pub script : List ℕ
  pub seat : SeatBook

-- an engineer for each script, at the seat at its place; the files are numbered from this one on
abbrev pub engineers_of : ℕ → List (List ℕ) → List SeatBook → List Engineering
engineers_of file [] seats = []
engineers_of file (script ∷ scripts) [] = []
engineers_of file (script ∷ scripts) (seat ∷ seats) = record { file = file; script = script; seat = seat }
    ∷ engineers_of (file + 1) scripts seats

-- an engineer who has called all lines: the seat, and the lines that made no call
pub record PlayedBook : Type 0 where
  pub seat : SeatBook
  pub told : List ToldLine

-- a line was called from the seat, and this was told of it: nothing of one that is blank or a comment, nor where the
-- event that it means was called; else why it makes no call
abbrev pub IsCalled : SeatBook → List ℕ → Option Refusal → SeatBook → Type 0
IsCalled seat line None seat' = (IsSilent line × (seat' ≡ seat))
    ⊎ ((event : Event) × (reply : Reply) × Means line event × (is_memory reply ≡ false)
    × (seat' ≡ with_call seat event reply))
IsCalled seat line (Some refusal) seat' = IsUncalled line refusal × (seat' ≡ seat)

-- the line of this number in the file makes no call, for this reason
abbrev pub told_at : ℕ → ℕ → Refusal → ToldLine
told_at file number refusal = record { file = file; line = number; refusal = refusal }

-- so the line of this number in the file was called, and told
abbrev pub IsLineCalled : ℕ → ℕ → SeatBook → List ℕ → Option ToldLine → SeatBook → Type 0
IsLineCalled file number seat line told seat' = (refusal : Option Refusal) × IsCalled seat line refusal seat'
    × (told ≡ option_map (told_at file number) refusal)

-- lines were called from a seat, the first of which has this number in the file: the seat has their calls more, and so
-- many lines more are told
pub record AreCalledFrom (file number : ℕ) (ls : List (List ℕ)) (old new : SeatBook)
    (before told : List ToldLine) : Type 0 where
  pub same : new.number ≡ old.number
  pub calls : List Call
  pub noted : new.notes ≡ old.notes ++ calls
  pub uncalled : List ToldLine
  pub behind : told ≡ before ++ uncalled
  pub called : AreCalled file number ls calls uncalled

-- an engineer's script was called from the first line to the last
abbrev pub HasPlayed : Engineering → PlayedBook → Type 0
HasPlayed engineer played = AreCalledFrom engineer.file 1 (lines engineer.script) engineer.seat played.seat [] played.told

-- all lines that were told, list by list
abbrev pub all_told : List (List ToldLine) → List ToldLine
all_told told = flat_map (λ (some : List ToldLine). some) told

-- what comes back: the seats of the workers, who made so many turns for so many shards, and then those of the engineers,
-- who have played; and what each of them has told
pub record AreBack (shards turns : ℕ) (engineers : List Engineering) (workers seats : List SeatBook)
    (told : List (List ToldLine)) : Type 0 where
  pub worked : List SeatBook
  pub played : List PlayedBook
  pub together : seats ≡ worked ++ map (λ (p : PlayedBook). p.seat) played
  pub lines : told ≡ map (λ (p : PlayedBook). p.told) played
  pub work : AllWorked shards turns workers worked
  pub play : AllZip HasPlayed engineers played

-- one of the seats is unlike its calls
abbrev pub HasUnlike : List SeatBook → Type 0
HasUnlike seats = (place : ℕ) × (seat : SeatBook) × (slice_get seats place ≡ Some seat) × IsUnlike seat

-- what is told of a seat that came back
abbrev pub notes_of : SeatBook → Notes
notes_of seat = (seat.number, seat.notes)

-- why there is no record, with these seats back: their books differ
abbrev pub IsOfBooks : List SeatBook → RunFault → Type 0
IsOfBooks seats BookDiffers = HaveOtherBooks (map notes_of seats)
IsOfBooks seats _ = ⊥

-- a fault of a team that plays, before the log is written
abbrev pub IsOfPlay : RunFault → Type 0
IsOfPlay NoMemory = ⊤
IsOfPlay BookDiffers = (seats : List Notes) × HaveOtherBooks seats
IsOfPlay _ = ⊥
