use Rattle.std.proofs.Common.{◌++◌, append_assoc, append-nil}
use Rattle.std.specs.List.{flat_map}
use Rattle.reply_text.specs.Parts.{part_text}
use Rattle.reply_text.specs.Replies.{attr_text, line_end}
use Rattle.reply_text.specs.Pieces.{writes_same, writes_cut, writes_next}
use Rattle.reply_text.proofs.line.write_with_attr.Goals as goal

pub returns-in_err-write_each : goal.returns-in_err-write_each
returns-in_err-write_each g c =
    writes_cut c.args.output.now c.write_each.new.output (flat_map part_text c.args.head.now)
    (attr_text (record c.args.attr.now { pref = c.args.pref }) ++ line_end) c.from_residual.result
    c.from_residual.ensures.0 c.in_err-write_each.ensures

pub returns : goal.returns
unfolding attr_text
returns g c =
    writes_next c.args.output.now c.write_each.new.output c.write_each-2.new.output (flat_map part_text c.args.head.now)
    (attr_text (record c.args.attr.now { pref = c.args.pref }) ++ line_end) c.write_each-2.result
    c.in_ok-write_each.ensures
    (writes_same c.write_each.new.output c.write_each-2.new.output _ _ c.write_each-2.result
    (simp (append_assoc, append-nil)) c.write_each-2.ensures)
