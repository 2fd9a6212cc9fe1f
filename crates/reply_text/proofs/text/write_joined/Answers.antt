use Rattle.std.proofs.Common.{arith}
use Rattle.reply_text.specs.Pieces.{writes_same, writes_cut, writes_next, joined_more}
use Rattle.reply_text.proofs.text.write_joined.Goals as goal

pub returns-in_err-write : goal.returns-in_err-write
returns-in_err-write g c =
    writes_same c.args.output.now c.write.new.output _ _ c.from_residual.result
    (joined_more c.args.separator g.T.Text.text c.args.items.now c.first-item.result (omega arith) c.first-item.is)
    (writes_cut _ _ _ _ _ c.from_residual.ensures.0 c.in_err-write.ensures)

pub returns : goal.returns
returns g c =
    writes_same c.args.output.now c.write_each_after.new.output _ _ c.write_each_after.result
    (joined_more c.args.separator g.T.Text.text c.args.items.now c.first-item.result (omega arith) c.first-item.is)
    (writes_next _ c.write.new.output _ _ _ _ c.in_ok-write.ensures c.write_each_after.ensures)
