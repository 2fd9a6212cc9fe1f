use Rattle.std.proofs.Common.{drop, Result}
use Rattle.std.specs.List.{flat_map}
use Rattle.watched.specs.declared.sink.WriterFailed.{WriterFailed}
use Rattle.watched.specs.Streams.{Writing, Writes}
use Rattle.reply_text.proofs.text.write_each.Given as goal

-- the items that are left complete what was written
abbrev pub invariant-loop-item : goal.invariant-loop-item
invariant-loop-item g l = (result : Result Unit WriterFailed) (new : Writing) →
    Writes l.output (flat_map g.T.Text.text (drop l.item-index l.items)) result new →
    Writes l.fn.output (flat_map g.T.Text.text l.items) result new
