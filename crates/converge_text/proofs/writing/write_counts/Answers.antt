use Rattle.std.proofs.Common.{append_assoc, append-nil}
use Rattle.reply_text.specs.Pieces.{writes_same}
use Rattle.converge_text.specs.Answers.{counts_text}
use Rattle.converge_text.proofs.writing.write_counts.Goals as goal

pub returns : goal.returns
unfolding counts_text
returns g c =
    writes_same c.args.output.now c.write_each.new.output _ _ c.write_each.result (simp (append_assoc, append-nil))
    c.write_each.ensures
