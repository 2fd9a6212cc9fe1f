-- No public contract cites this file. A log that is written in three parts: its first line, its calls, its last line.
use Rattle.std.specs.Prelude.{ℕ, List, ◌++◌, length, Result}
use Rattle.std.specs.Result.{IsErr}
use Rattle.std.specs.List.{flat_map}
use Rattle.std.proofs.Common.{append_assoc}
use Rattle.sim_event.specs.declared.entry.Entry.{Entry}
use Rattle.reply_text.specs.Replies.{line_end, end_line}
use Rattle.reply_text.specs.Pieces.{WritesAll, WritesFront, writes_same, writes_cut, writes_next}
use Rattle.watched.specs.Streams.{Writing, Writes}
use Rattle.log_text.specs.declared.version.Version.TheVariants.{Two}
use Rattle.log_text.specs.Versions.{header}
use Rattle.log_text.specs.Logs.{entry_text, log_text}

abbrev pub first_line : List ℕ
first_line = header Two ++ line_end

abbrev pub calls_text : List Entry → List ℕ
calls_text h = flat_map entry_text h

abbrev pub last_line : List Entry → List ℕ
last_line h = end_line (length h)

module _ {E : Type 0} where
  -- the first line was not written in full
  pub log_cut_first : (h : List Entry) (old new : Writing) (r : Result Unit E) → IsErr r →
      WritesFront old first_line new → Writes old (log_text h) r new
  log_cut_first h old new r err cut =
      writes_same old new _ _ r (append_assoc first_line (calls_text h) (last_line h))
      (writes_cut old new first_line (calls_text h ++ last_line h) r err cut)

  -- the calls were not written in full
  pub log_cut_calls : (h : List Entry) (old mid new : Writing) (r : Result Unit E) → WritesAll old first_line mid →
      IsErr r → WritesFront mid (calls_text h) new → Writes old (log_text h) r new
  log_cut_calls h old mid new r all err cut =
      writes_same old new _ _ r (append_assoc first_line (calls_text h) (last_line h))
      (writes_next old mid new first_line (calls_text h ++ last_line h) r all
      (writes_cut mid new (calls_text h) (last_line h) r err cut))

  -- all was written but for the last line, and then that
  pub log_whole : (h : List Entry) (old mid more new : Writing) (r : Result Unit E) → WritesAll old first_line mid →
      WritesAll mid (calls_text h) more → Writes more (last_line h) r new → Writes old (log_text h) r new
  log_whole h old mid more new r all rest end =
      writes_same old new _ _ r (append_assoc first_line (calls_text h) (last_line h))
      (writes_next old mid new first_line (calls_text h ++ last_line h) r all
      (writes_next mid more new (calls_text h) (last_line h) r rest end))
