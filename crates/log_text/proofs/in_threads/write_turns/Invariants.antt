use Rattle.std.proofs.Common.{length}
use Rattle.std.specs.List.{flat_map}
use Rattle.watched.specs.declared.sink.WriterFailed.{WriterFailed}
use Rattle.reply_text.specs.Pieces.{Continues}
use Rattle.log_text.specs.Logs.{entry_text}
use Rattle.log_text.proofs.in_threads.write_turns.Given as goal

-- the calls that are left complete what was written
abbrev pub invariant-loop-left : goal.invariant-loop-left
invariant-loop-left g l = Continues WriterFailed l.fn.output (flat_map entry_text l.entries) l.output
    (flat_map entry_text l.left)

abbrev pub decreases-loop-left : goal.decreases-loop-left
decreases-loop-left g l = length l.left
