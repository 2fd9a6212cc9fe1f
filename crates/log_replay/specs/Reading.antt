-- No public contract cites this file. What reading a line of a log may answer, and where its replay stands.
use Rattle.std.specs.Prelude.{◌≡◌, ℕ, ◌<◌, ◌≤◌, ◌==◌, true, false, List, [], length, drop, Option, Some, None, Result, Ok, Err}
use Rattle.std.specs.List.{slice_split, AllByRecursion}
use Rattle.sim_event.specs.declared.event.Event.{Event}
use Rattle.sim_event.specs.Events.{IsEvent}
use Rattle.reference_machine.specs.Network.{Network}
use Rattle.reference_machine.specs.Machine.{nothing}
use Rattle.command_text.specs.Lines.{most_command_bytes}
use Rattle.reply_text.specs.Lines.{IsLine, marked}
use Rattle.log_text.specs.declared.version.Version.{Version}
use Rattle.log_text.specs.declared.version.Version.TheVariants.{Two}
use Rattle.log_text.specs.Logs.{command_text, reply_mark}
use Rattle.log_replay.specs.declared.place.Stage.{Stage}
use Rattle.log_replay.specs.declared.place.Stage.TheVariants.{Beginning, Within, Finished}
use Rattle.log_replay.specs.declared.place.Checker.{Checker}
use Rattle.log_replay.specs.declared.place.Checked.{Checked}
use Rattle.log_replay.specs.declared.place.Checked.TheVariants.{Taken, Differs as Different, Bad}
use Rattle.log_replay.specs.Replaying.{Place, beginning, within, finished, Takes, IsCallLine, IsCallAt, awaits_reply}

-- between each two spaces stands a word, and at both ends
abbrev pub IsSpaced : List ℕ → Type 0
IsSpaced text = AllByRecursion (λ word. 0 < length word) (slice_split (λ b. b == 32) text)

-- the command of an event, with one space between words, and not too long
abbrev pub IsCommand : List ℕ → Event → Type 0
IsCommand text event = IsEvent event × (length (command_text event) ≤ most_command_bytes) × (text ≡ command_text event)

-- the event that a command spells; none where it spells none
abbrev pub Spells : List ℕ → Option Event → Type 0
Spells text (Some event) = IsCommand text event
Spells text None = (event : Event) → IsCommand text event → ⊥

-- the same, with want of memory only for a command
abbrev pub ReadsCommand : {E : Type 0} → List ℕ → Result (Option Event) E → Type 0
ReadsCommand text (Ok found) = Spells text found
ReadsCommand text (Err e) = (event : Event) × IsCommand text event

-- the event of a call's line, in a log of the version; none where the line is no call of it
abbrev pub Calls : Version → List ℕ → Option Event → Type 0
Calls v line (Some event) = IsCallLine v line event
Calls v line None = (event : Event) → IsCallLine v line event → ⊥

-- the same, with want of memory only for a call, as the latest version has it
abbrev pub ReadsCall : {E : Type 0} → Version → List ℕ → Result (Option Event) E → Type 0
ReadsCall v line (Ok found) = Calls v line found
ReadsCall v line (Err e) = (event : Event) × IsCallLine Two line event

abbrev pub IsAtStage : Stage → ℕ → List ℕ → Network → Place → Type 0
IsAtStage Beginning n due s p = (p ≡ beginning) × (s ≡ nothing) × (n ≡ 0) × (due ≡ [])
IsAtStage (Within v) n due s p = (lines : List (List ℕ)) × AllByRecursion IsLine lines × (due ≡ marked reply_mark lines)
    × (p ≡ within v n s lines)
IsAtStage Finished n due s p = p ≡ finished n

-- the checker, and the machine's state, are at the place
abbrev pub IsAt : Checker → Network → Place → Type 0
IsAt c s p = IsAtStage c.stage c.entries (drop c.at c.due.items) s p

-- what becomes of a line at the place
abbrev pub Becomes : Place → List ℕ → Checked → Checker → Network → Type 0
Becomes p line Taken c s = (q : Place) × Takes p line q × IsAt c s q
Becomes p line Different c s = (awaits_reply p ≡ true) × ((q : Place) → Takes p line q → ⊥)
Becomes p line Bad c s = (awaits_reply p ≡ false) × ((q : Place) → Takes p line q → ⊥)

-- the same, with want of memory only for a call
abbrev pub IsChecked : {E : Type 0} → Place → List ℕ → Result Checked E → Checker → Network → Type 0
IsChecked p line (Ok checked) c s = Becomes p line checked c s
IsChecked p line (Err e) c s = IsCallAt p line
