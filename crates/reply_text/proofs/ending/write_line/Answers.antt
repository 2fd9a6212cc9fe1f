use Rattle.std.proofs.Common.{subst, sym}
use Rattle.watched.specs.Streams.{Writes}
use Rattle.reply_text.specs.Ending.{fault_text, unread_text}
use Rattle.reply_text.proofs.ending.write_line.Goals as goal

pub returns-in-FileUnread : goal.returns-in-FileUnread
returns-in-FileUnread g c =
    let named = subst (λ name. Writes c.args.output.now (unread_text name) c.write_each.result c.write_each.new.output)
    c.as_bytes.ensures.value c.write_each.ensures in
    subst (λ f. Writes c.args.output.now (fault_text f) c.write_each.result c.write_each.new.output)
    (sym c.in-FileUnread.is) named

pub returns-in-BookDiffers : goal.returns-in-BookDiffers
returns-in-BookDiffers g c =
    subst (λ f. Writes c.args.output.now (fault_text f) c.write-in-BookDiffers.result c.write-in-BookDiffers.new.self)
    (sym c.in-BookDiffers.is) c.write-in-BookDiffers.ensures
