-- (own) The text of a log: a header, the calls of a history with their replies, and how many calls there are.
use Rattle.std.specs.Prelude.{ℕ, List, ◌++◌, length, codes}
use Rattle.std.specs.Fmt.{decimal}
use Rattle.std.specs.List.{flat_map, join_with_byte}
use Rattle.sim_event.specs.declared.event.Event.{Event}
use Rattle.sim_event.specs.declared.entry.Entry.{Entry}
use Rattle.command_text.specs.Words.{words_of}
use Rattle.reply_text.specs.Replies.{line_end, end_line}
use Rattle.reply_text.specs.Lines.{reply_lines, marked}
use Rattle.log_text.specs.declared.version.Version.{Version}
use Rattle.log_text.specs.declared.version.Version.TheVariants.{Two}
use Rattle.log_text.specs.Versions.{header}

-- a command: its words, with one space between each and the next
abbrev pub command_text : Event → List ℕ
command_text event = join_with_byte 32 (words_of event)

-- the line of a call: the number of its seat, and the command
abbrev pub call_line : ℕ → Event → List ℕ
call_line seat event = codes "@" ++ decimal seat ++ codes " " ++ command_text event

-- what stands in front of each line of a reply
abbrev pub reply_mark : List ℕ
reply_mark = codes "= "

-- a call, and the lines of its reply
unfoldable pub entry_text : Entry → List ℕ
entry_text e = call_line e.seat e.event ++ line_end ++ marked reply_mark (reply_lines e.reply)

-- a log of this version; the last line says how many calls there are
abbrev pub log_of : Version → List Entry → List ℕ
log_of v h = header v ++ line_end ++ flat_map entry_text h ++ end_line (length h)

-- the log that is written
abbrev pub log_text : List Entry → List ℕ
log_text h = log_of Two h
