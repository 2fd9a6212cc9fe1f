use Rattle.reply_text.proofs.LineFeeds.{replies_are_lines}
use Rattle.reply_text.proofs.laws.replies_are_lines.Goals as goal

pub returns : goal.returns
returns c = replies_are_lines
