use Rattle.std.proofs.Common.{arith}
use Rattle.command_text.proofs.Fronts.{three_read}
use Rattle.command_text.proofs.front.three_digits.Goals as goal

pub returns : goal.returns
returns c =
    three_read _ _ _ c.in_ok-upper.upper c.in_ok-last.last _ c.in_ok-upper.ensures.range.0 c.in_ok-upper.ensures.range.1
    c.in_ok-upper.ensures.found c.in_ok-last.ensures.below c.in_ok-last.ensures.found (omega arith)
