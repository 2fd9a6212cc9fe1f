use Rattle.command_text.proofs.Segments.{set_ascending, ascending_set, sequence_numbers, numbers_sequence}
use Rattle.command_text.proofs.path.is_segment.Goals as goal

pub returns-in-Some : goal.returns-in-Some
returns-in-Some c = (
  λ e. ascending_set _ _ c.in-Some.ensures.found (c.are_ascending.ensures.0 e),
  λ has. c.are_ascending.ensures.1 (set_ascending _ _ c.in-Some.ensures.found has),
)

pub returns-in-None : goal.returns-in-None
returns-in-None c = (
  λ e. numbers_sequence _ (c.are_numbers.ensures.0 e),
  λ has. c.are_numbers.ensures.1 (sequence_numbers _ c.in-None.ensures.none has),
)
