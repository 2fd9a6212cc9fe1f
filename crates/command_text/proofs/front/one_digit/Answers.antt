use Rattle.command_text.proofs.Fronts.{one_read}
use Rattle.command_text.proofs.front.one_digit.Goals as goal

pub returns : goal.returns
returns c = one_read _ _ c.digit.ensures.below c.digit.ensures.found
