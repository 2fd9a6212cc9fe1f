use Rattle.std.proofs.Common.{◌≡◌, [], drop, codes, arith}
use Rattle.std.proofs.lemmas.List.{drop_all}
use Rattle.net_prefix.specs.Prefix.{prefix_text}
use Rattle.reply_text.specs.Replies.{kind_text, line_end}
use Rattle.reply_text.proofs.Puts.{took_put}
use Rattle.reply_text.proofs.reply.put_took.Goals as goal

pub returns-clause-text : goal.returns-clause-text
returns-clause-text c =
    let none : drop 34 c.args.buffer.now ≡ [] = drop_all 34 c.args.buffer.now (omega arith) in
    took_put (codes "took ") (prefix_text c.args.prefix) c.kind_end.result.now _ _ _ _ (kind_text c.args.kind) line_end
    c.put_bytes.ensures.text c.put_prefix-end.ensures.text c.put_bytes-end.ensures.text c.kind_end.ensures.text none
