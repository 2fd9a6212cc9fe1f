use Rattle.std.proofs.Common.{drop, Result}
use Rattle.std.specs.List.{flat_map}
use Rattle.watched.specs.declared.sink.WriterFailed.{WriterFailed}
use Rattle.watched.specs.Streams.{Writing, Writes}
use Rattle.log_text.specs.Logs.{entry_text}
use Rattle.log_text.proofs.log.write_entries.Given as goal

-- the entries that are left complete what was written
abbrev pub invariant-loop-entry : goal.invariant-loop-entry
invariant-loop-entry g l = (result : Result Unit WriterFailed) (new : Writing) →
    Writes l.output (flat_map entry_text (drop l.entry-index l.entries)) result new →
    Writes l.fn.output (flat_map entry_text l.entries) result new
