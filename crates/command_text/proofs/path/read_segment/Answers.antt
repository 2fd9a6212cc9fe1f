use Rattle.command_text.proofs.Segments.{set_read, sequence_read}
use Rattle.command_text.proofs.path.read_segment.Goals as goal

pub returns-in-Some : goal.returns-in-Some
returns-in-Some c = set_read _ _ _ c.in-Some.ensures.found c.read_set.ensures.found c.read_set.ensures.none

pub returns-in-None : goal.returns-in-None
returns-in-None c = sequence_read _ _ c.in-None.ensures.none c.read_sequence.ensures.found c.read_sequence.ensures.none
