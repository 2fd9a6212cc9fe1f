use Rattle.std.proofs.Common.{arith}
use Rattle.command_text.proofs.Fronts.{two_read}
use Rattle.command_text.proofs.front.two_digits.Goals as goal

pub returns-clause-found : goal.returns-clause-found
returns-clause-found c =
    two_read _ _ _ _ (omega arith) c.in_ok-tens.ensures.below c.in_ok-ones.ensures.below c.in_ok-tens.ensures.found
    c.in_ok-ones.ensures.found
