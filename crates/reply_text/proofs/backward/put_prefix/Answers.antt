use Rattle.reply_text.proofs.Puts.{prefix_put}
use Rattle.reply_text.proofs.backward.put_prefix.Goals as goal

pub returns-clause-text : goal.returns-clause-text
returns-clause-text c = prefix_put c.args.prefix c.addr.result c.len.result _ _ _ c.addr.ensures c.len.ensures.value
    c.put_addr.ensures.text c.put_after-end.ensures.text
