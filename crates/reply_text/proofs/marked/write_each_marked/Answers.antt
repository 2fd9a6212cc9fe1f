use Rattle.std.proofs.Common.{◌++◌}
use Rattle.reply_text.specs.Pieces.{each_next, each_cut, each_end}
use Rattle.reply_text.proofs.marked.write_each_marked.Goals as goal

pub returns-in_err-write_marked_text : goal.returns-in_err-write_marked_text
returns-in_err-write_marked_text g c =
    each_cut (λ item. c.args.mark.now ++ g.T.Text.text item) c.args.output.now c.loop-item.output
    c.write_marked_text.new.output _ c.args.items.now c.loop-item.item-index c.item-item.result
    c.from_residual.result c.loop-item-test.true c.item-item.is c.loop-item.invariant c.from_residual.ensures.0
    c.in_err-write_marked_text.ensures

pub loop-item-preserved : goal.loop-item-preserved
loop-item-preserved g c =
    each_next (λ item. c.args.mark.now ++ g.T.Text.text item) c.args.output.now c.loop-item.output
    c.write_marked_text.new.output _ c.args.items.now c.loop-item.item-index c.item-item.result
    c.loop-item-test.true c.item-item.is c.loop-item.invariant c.in_ok-write_marked_text.ensures

pub returns : goal.returns
returns g c = each_end (λ item. c.args.mark.now ++ g.T.Text.text item) c.args.output.now c.loop-item.output
    _ c.args.items.now c.loop-item.item-index c.loop-item-test.false c.loop-item.invariant
