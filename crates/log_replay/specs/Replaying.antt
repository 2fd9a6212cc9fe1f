-- What it means to replay a log (own): its lines are read in order, and each command is run again.
use Rattle.std.specs.Prelude.{◌≡◌, ◌⊎◌, ℕ, ◌+◌, ◌<◌, ◌≤◌, Bool, true, false, List, [], ◌∷◌, ◌++◌, length, codes, Some, Result, Ok, Err}
use Rattle.std.specs.Fmt.{decimal}
use Rattle.std.specs.List.{flat_map, AllByRecursion}
use Rattle.decimal.specs.Separators.{Lacks}
use Rattle.watched.specs.Streams.{Reading}
use Rattle.sim_event.specs.declared.event.Event.{Event}
use Rattle.sim_event.specs.Events.{IsEvent}
use Rattle.reference_machine.specs.Network.{Network}
use Rattle.reference_machine.specs.Machine.{nothing, step}
use Rattle.command_text.specs.Lines.{most_command_bytes}
use Rattle.reply_text.specs.Replies.{line_end}
use Rattle.reply_text.specs.Lines.{reply_lines}
use Rattle.log_text.specs.declared.version.Version.{Version}
use Rattle.log_text.specs.Versions.{has_form, header}
use Rattle.log_text.specs.Logs.{command_text, call_line, reply_mark}
use Rattle.log_replay.specs.declared.verdict.Replayed.{Replayed}
use Rattle.log_replay.specs.declared.verdict.Replayed.TheVariants.{Agrees, Differs, BadLine}
use Rattle.log_replay.specs.declared.verdict.ReplayFault.{ReplayFault}
use Rattle.log_replay.specs.declared.verdict.ReplayFault.TheVariants.{Read, TooManyLines, Memory}

-- the most bytes of a line, its line feed not counted, and the most lines
abbrev pub most_bytes : ℕ
most_bytes = 1048576

abbrev pub most_lines : ℕ
most_lines = 16000000

-- what a log has come to: nothing; within a log of some version so many calls, the state that they leave, and the lines
-- that are still due of the last one's reply; or its end, after so many calls
pub data Place : Type 0 where
  beginning : Place
  within : Version → ℕ → Network → List (List ℕ) → Place
  finished : ℕ → Place

-- a call that a log of the version may hold: its values are in their ranges, its command is not too long, and the
-- version has a form for it
abbrev pub IsCall : Version → ℕ → Event → Type 0
IsCall v seat event = (seat < 256) × IsEvent event × (length (command_text event) ≤ most_command_bytes)
    × (has_form v event ≡ true)

abbrev pub IsCallLine : Version → List ℕ → Event → Type 0
IsCallLine v line event = (seat : ℕ) × IsCall v seat event × (line ≡ call_line seat event)

-- the line may stand at the place, and brings the log to the next one: the header of a version; a call, whose reply is
-- then due line by line as the machine gives it; each line of that; and, where none is due, the end, with the number of
-- calls
abbrev pub Takes : Place → List ℕ → Place → Type 0
Takes beginning line next = (v : Version) × (line ≡ header v) × (next ≡ within v 0 nothing [])
Takes (within v n s []) line next =
    ((event : Event) × IsCallLine v line event
    × (next ≡ within v (n + 1) (step s event).next (reply_lines (step s event).reply)))
    ⊎ ((line ≡ codes "end " ++ decimal n) × (next ≡ finished n))
Takes (within v n s (due ∷ more)) line next = (line ++ line_end ≡ reply_mark ++ due) × (next ≡ within v n s more)
Takes (finished n) line next = ⊥

-- the lines bring a log from one place to the other
abbrev pub TakesAll : Place → List (List ℕ) → Place → Type 0
TakesAll p [] q = q ≡ p
TakesAll p (line ∷ more) q = (mid : Place) × Takes p line mid × TakesAll mid more q

-- whether a line of a reply is due
abbrev pub awaits_reply : Place → Bool
awaits_reply beginning = false
awaits_reply (within v n s []) = false
awaits_reply (within v n s (due ∷ more)) = true
awaits_reply (finished n) = false

abbrev pub is_finished : Place → Bool
is_finished beginning = false
is_finished (within v n s due) = false
is_finished (finished n) = true

-- a line is not too long, and has no line feed of its own; a carriage return is a byte like any other
abbrev pub IsFit : List ℕ → Type 0
IsFit line = Lacks 10 line × (length line ≤ most_bytes)

-- the lines, each with its line feed
abbrev pub lines_text : List (List ℕ) → List ℕ
lines_text ls = flat_map (λ line. line ++ line_end) ls

-- the bytes begin with k whole lines, none of them too long, that bring a log from its beginning to the place; and
-- these bytes are left
pub record Stands (bytes left : List ℕ) (k : ℕ) (p : Place) : Type 0 where
  pub done : List (List ℕ)
  pub parts : bytes ≡ lines_text done ++ left
  pub fit : AllByRecursion IsFit done
  pub count : length done ≡ k
  pub few : k ≤ most_lines
  pub taken : TakesAll beginning done p

-- what is left begins with this line, whole and not too long
abbrev pub Begins : List ℕ → List ℕ → Type 0
Begins left line = (rest : List ℕ) × (left ≡ line ++ (10 ∷ rest)) × IsFit line

-- the next line is whole and not too long, and may not stand at the place
abbrev pub IsRefused : Place → List ℕ → Type 0
IsRefused p left = (line : List ℕ) × Begins left line × ((q : Place) → Takes p line q → ⊥)

-- more bytes than a line may have stand before the next line feed
abbrev pub IsTooLong : List ℕ → Type 0
IsTooLong left = (front : List ℕ) × (rest : List ℕ) × (left ≡ front ++ rest) × Lacks 10 front
    × (most_bytes < length front)

-- the input stops too early, or after the end in a line with no line feed
abbrev pub IsCutOff : Place → List ℕ → Type 0
IsCutOff p left = Lacks 10 left × (is_finished p ≡ true → 0 < length left)

-- the next line is bad: no reply is due and it may not stand there, or it is too long, or it is not there whole
abbrev pub IsBad : Place → List ℕ → Type 0
IsBad p left = ((awaits_reply p ≡ false) × IsRefused p left) ⊎ (IsTooLong left ⊎ IsCutOff p left)

-- the line is a call, where no reply is due; of whatever version, since memory is taken to read it
abbrev pub IsCallAt : Place → List ℕ → Type 0
IsCallAt p line = (awaits_reply p ≡ false) × (v : Version) × (event : Event) × IsCallLine v line event

-- the next line is a call, for which memory may be wanted
abbrev pub IsCalled : Place → List ℕ → Type 0
IsCalled p left = (line : List ℕ) × Begins left line × IsCallAt p line

-- the reader failed before the next line was read whole
abbrev pub IsUnread : List ℕ → Reading → Type 0
IsUnread left i' = (i'.failed ≡ true) × (part : List ℕ) × (rest : List ℕ) × (left ≡ part ++ rest) × Lacks 10 part
    × (i'.remaining ≡ Some rest)

-- after k lines one more may be read, or nothing is left
abbrev pub IsInBounds : ℕ → List ℕ → Type 0
IsInBounds k left = 0 < length left → k < most_lines

-- replaying the bytes: all of them were read, and are a log that agrees; or the next line is the first that differs or
-- is bad; or it was not read, or is one too many; or memory was wanted for it. Lines count from 1
abbrev pub IsReplay : List ℕ → Result Replayed ReplayFault → Reading → Type 0
IsReplay bytes (Ok (Agrees n)) i' = (k : ℕ) × Stands bytes [] k (finished n) × (i'.remaining ≡ Some [])
IsReplay bytes (Ok (Differs line)) i' = (k : ℕ) × (p : Place) × (left : List ℕ) × Stands bytes left k p × (line ≡ k + 1)
    × IsInBounds k left × (awaits_reply p ≡ true) × IsRefused p left
IsReplay bytes (Ok (BadLine line)) i' = (k : ℕ) × (p : Place) × (left : List ℕ) × Stands bytes left k p × (line ≡ k + 1)
    × IsInBounds k left × IsBad p left
IsReplay bytes (Err (Read line)) i' = (k : ℕ) × (p : Place) × (left : List ℕ) × Stands bytes left k p
    × (line ≡ k + 1) × IsUnread left i'
IsReplay bytes (Err TooManyLines) i' = (p : Place) × (left : List ℕ) × Stands bytes left most_lines p
    × (0 < length left)
IsReplay bytes (Err Memory) i' = (k : ℕ) × (p : Place) × (left : List ℕ) × Stands bytes left k p
    × IsInBounds k left × IsCalled p left

-- the reader failed
abbrev pub is_read_fault : {A : Type 0} → Result A ReplayFault → Bool
is_read_fault (Ok x) = false
is_read_fault (Err (Read line)) = true
is_read_fault (Err TooManyLines) = false
is_read_fault (Err Memory) = false
