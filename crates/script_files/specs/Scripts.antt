-- The lines that are left of a script, and why not all files were read.
use Rattle.std.specs.Prelude.{ℕ, ⊤, List, string_bytes}
use Rattle.reply_text.specs.declared.ending.RunFault.{RunFault}
use Rattle.reply_text.specs.declared.ending.RunFault.TheVariants.{FileUnread, NoMemory}
use Rattle.script_files.specs.Sources.{FileBook, IsFirstUnread}

-- the lines that are left of a script, and how many came before them
pub record LinesLeft : Type 0 where
  pub before : ℕ
  pub left : List (List ℕ)

-- why not all files were read, of which this is left: one was not, or there was no memory
abbrev pub IsReadingFault : List FileBook → List FileBook → RunFault → Type 0
IsReadingFault files left (FileUnread name) = IsFirstUnread files left (string_bytes name)
IsReadingFault files left NoMemory = ⊤
IsReadingFault files left _ = ⊥
