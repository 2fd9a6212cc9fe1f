use Rattle.std.proofs.Common.{rules}
use Rattle.reply_text.proofs.Puts.{address_put}
use Rattle.reply_text.proofs.backward.put_addr.Goals as goal

pub returns-clause-text : goal.returns-clause-text
returns-clause-text c =
    let bytes = c.to_be_bytes.ensures in
    address_put c.args.addr _ _ _ _ _ _ _ _ _ (search rules) (search rules) (search rules)
    (search rules) c.put_number.ensures.text c.put_after-end-3.ensures.text c.put_after-end-2.ensures.text
    c.put_after-end.ensures.text
