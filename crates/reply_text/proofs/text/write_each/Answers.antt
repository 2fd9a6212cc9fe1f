use Rattle.reply_text.specs.Pieces.{each_next, each_cut, each_end}
use Rattle.reply_text.proofs.text.write_each.Goals as goal

pub returns-in_err-write : goal.returns-in_err-write
returns-in_err-write g c =
    each_cut g.T.Text.text c.args.output.now c.loop-item.output c.write.new.output _ c.args.items.now
    c.loop-item.item-index c.item-item.result c.from_residual.result c.loop-item-test.true c.item-item.is
    c.loop-item.invariant c.from_residual.ensures.0 c.in_err-write.ensures

pub loop-item-preserved : goal.loop-item-preserved
loop-item-preserved g c =
    each_next g.T.Text.text c.args.output.now c.loop-item.output c.write.new.output _ c.args.items.now
    c.loop-item.item-index c.item-item.result c.loop-item-test.true c.item-item.is c.loop-item.invariant
    c.in_ok-write.ensures

pub returns : goal.returns
returns g c = each_end g.T.Text.text c.args.output.now c.loop-item.output _ c.args.items.now c.loop-item.item-index
    c.loop-item-test.false c.loop-item.invariant
