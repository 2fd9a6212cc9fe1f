-- The files of scripts, and what it means that they were read.
use Rattle.std.specs.Prelude.{◌≡◌, ◌⊎◌, ℕ, ⊤, true, List, [], ◌++◌, take, slice_get, Option, Some, None}
use Rattle.std.specs.List.{AllZip}
use Rattle.std.specs.Str.Lines.{lines}
use Rattle.watched.specs.Limits.{AreFit}
use Rattle.watched.specs.Streams.{Reading}

-- a file: what it is called; and, where it could be opened, its reader
pub record FileBook : Type 0 where
  pub name : List ℕ
  pub reader : Option Reading

-- the script has no more lines than a script may have, and none longer than a line may be
abbrev pub IsFit : List ℕ → Type 0
IsFit script = AreFit (lines script)

-- these are all bytes that the reader had, where it tells them
abbrev pub IsWhole : Option (List ℕ) → List ℕ → Type 0
IsWhole None script = ⊤
IsWhole (Some bytes) script = bytes ≡ script

-- a file that could be opened was read: the script is all of it, and within the limits
abbrev pub IsReadAs : Option Reading → List ℕ → Type 0
IsReadAs None script = ⊥
IsReadAs (Some reader) script = IsWhole reader.remaining script × IsFit script

abbrev pub IsRead : FileBook → List ℕ → Type 0
IsRead file script = IsReadAs file.reader script

-- each file was, as the script at its place
abbrev pub AreRead : List FileBook → List (List ℕ) → Type 0
AreRead files scripts = AllZip IsRead files scripts

-- what was read and what is left make no script, where that is known
abbrev pub IsUnfit : List ℕ → Option (List ℕ) → Type 0
IsUnfit read None = ⊤
IsUnfit read (Some left) = IsFit (read ++ left) → ⊥

-- why a file was not read, by its reader before that and after: there was none, as the file could not be opened; or the
-- reader failed; or what it had is no script
abbrev pub IsUnreadable : Option Reading → Option Reading → Type 0
IsUnreadable None after = ⊤
IsUnreadable (Some reader) None = ⊥
IsUnreadable (Some reader) (Some after) = (after.failed ≡ true) ⊎ IsUnfit [] reader.remaining

-- the first file that was not read has this name, and could not be read; those before it were. Of each file it is known
-- what it was, and what is left of it
pub record IsFirstUnread (files left : List FileBook) (name : List ℕ) : Type 0 where
  pub place : ℕ
  pub scripts : List (List ℕ)
  pub read : AreRead (take place files) scripts
  pub file : FileBook
  pub rest : FileBook
  pub tried : slice_get files place ≡ Some file
  pub behind : slice_get left place ≡ Some rest
  pub named : file.name ≡ name
  pub unreadable : IsUnreadable file.reader rest.reader
