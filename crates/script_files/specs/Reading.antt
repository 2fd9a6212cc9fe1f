-- No public contract cites this file. Scripts that are read piece by piece.
use Rattle.std.specs.Prelude.{◌≡◌, ◌≤◌, ◌<◌, ◌-◌, ◌+◌, ◌==◌, ℕ, ⊤, Bool, List, ◌++◌, length, slice_index, All, string_bytes}
use Rattle.std.specs.Str.Lines.{lines}
use Rattle.watched.specs.LineFeeds.{Whole}
use Rattle.watched.specs.Limits.{most_bytes, most_lines}
use Rattle.reply_text.specs.declared.ending.RunFault.{RunFault}
use Rattle.reply_text.specs.declared.ending.RunFault.TheVariants.{FileUnread, NoMemory}
use Rattle.script_files.specs.Sources.{FileBook, IsUnreadable}
use Rattle.script_files.specs.declared.files.Measure.{Measure}
use Rattle.script_files.specs.declared.files.Unread.{Unread}
use Rattle.script_files.specs.declared.files.Unread.TheVariants.{Memory}

-- there was no memory
abbrev pub no_memory : Unread
no_memory = Memory

-- whether the line's last byte is a carriage return
abbrev pub is_returned : List ℕ → Bool
is_returned line = slice_index line (length line - 1) == 13

-- what was read begins with whole lines, which a script may have, and then has a part of a line, to which one byte may
-- belong that is of its end
pub record IsMeasured (bytes : List ℕ) (measure : Measure) : Type 0 where
  pub whole : List (List ℕ)
  pub part : List ℕ
  pub cut : (rest : List ℕ) → lines (bytes ++ rest) ≡ whole ++ lines (part ++ rest)
  pub short : All (λ line. length line ≤ most_bytes) whole
  pub one_line : Whole part
  pub counted : measure.lines ≡ length whole
  pub long : measure.length ≡ length part
  pub returned : measure.is_returned ≡ is_returned part
  pub few : length whole ≤ most_lines
  pub room : 0 < length part → length whole < most_lines
  pub most : length part ≤ most_bytes + 1

-- why the file was not read, of which this is left: it could not be; or there was no memory
abbrev pub IsFileFault : FileBook → FileBook → RunFault → Type 0
IsFileFault file rest (FileUnread name) = (string_bytes name ≡ file.name) × IsUnreadable file.reader rest.reader
IsFileFault file rest NoMemory = ⊤
IsFileFault file rest _ = ⊥
