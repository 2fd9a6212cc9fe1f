-- How a run of the program ends: its exit status, and what is told of a fault on the third stream (own).
use Rattle.std.specs.Prelude.{◌≡◌, ◌⊎◌, ◌++◌, ℕ, true, List, codes, string_bytes}
use Rattle.std.specs.Fmt.{decimal}
use Rattle.std.specs.Io.KnownBytes.{Appends}
use Rattle.watched.specs.Streams.{Writing, AppendsFront}
use Rattle.reply_text.specs.Replies.{line_end}
use Rattle.reply_text.specs.declared.ending.RunFault.{RunFault}
use Rattle.reply_text.specs.declared.ending.RunFault.TheVariants.{LineUnread, FileUnread, Unwritten, NoMemory, BookDiffers}

-- ---- exit statuses

-- all was done
abbrev pub success : ℕ
success = 0

-- a log is not that of a legal history
abbrev pub disagrees : ℕ
disagrees = 1

-- the command line is mistaken
abbrev pub mistaken : ℕ
mistaken = 2

-- what was to be read was not
abbrev pub read_fault : ℕ
read_fault = 3

-- the writer failed
abbrev pub write_fault : ℕ
write_fault = 4

-- memory was wanted, or the notes of a seat are not its calls
abbrev pub no_memory : ℕ
no_memory = 5

-- the status of a fault
abbrev pub fault_status : RunFault → ℕ
fault_status (LineUnread line) = read_fault
fault_status (FileUnread name) = read_fault
fault_status Unwritten = write_fault
fault_status NoMemory = no_memory
fault_status BookDiffers = no_memory

-- ---- what is told

-- of a file that was not read, by its name
abbrev pub unread_text : List ℕ → List ℕ
unread_text name = codes "cannot read " ++ name ++ line_end

-- of a fault
abbrev pub fault_text : RunFault → List ℕ
fault_text (LineUnread line) = codes "read fault at line " ++ decimal line ++ line_end
fault_text (FileUnread name) = unread_text (string_bytes name)
fault_text Unwritten = codes "write fault" ++ line_end
fault_text NoMemory = codes "memory" ++ line_end
fault_text BookDiffers = codes "the book differs" ++ line_end

-- all of the text was written, or the writer failed, after a front of it
abbrev pub IsTold : Writing → List ℕ → Writing → Type 0
IsTold old text new = Appends old.written new.written text
    ⊎ ((new.failed ≡ true) × AppendsFront old.written new.written text)

-- there was no memory to begin: nothing was written, and that alone was told
abbrev pub IsWithoutMemory : Writing → Writing → ℕ → Writing → Writing → Type 0
IsWithoutMemory o errors status o' errors' = (status ≡ no_memory) × (o' ≡ o)
    × IsTold errors (fault_text NoMemory) errors'

-- want of memory, as `?` makes it
abbrev pub memory_fault : RunFault
memory_fault = NoMemory
