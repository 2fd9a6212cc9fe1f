use Rattle.watched.proofs.FirstByte.{first_byte}
use Rattle.watched.proofs.line_buffer.line_feed_in.Goals as goal

pub returns : goal.returns
returns c = first_byte _ _ c.memchr.ensures
