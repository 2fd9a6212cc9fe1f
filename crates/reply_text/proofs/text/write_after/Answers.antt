use Rattle.std.proofs.Common.{◌∷◌, []}
use Rattle.watched.specs.Writing.{writes_then}
use Rattle.reply_text.proofs.text.write_after.Goals as goal

pub returns : goal.returns
returns g c = writes_then c.args.output.now c.write.new.self c.write-2.new.output (c.args.separator ∷ [])
    (g.T.Text.text c.args.item.now) c.in_ok-write.field-0 c.write-2.result c.in_ok-write.ensures c.write-2.ensures
