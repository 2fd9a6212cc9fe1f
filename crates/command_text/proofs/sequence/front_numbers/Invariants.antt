use Rattle.std.proofs.Common.{length}
use Rattle.command_text.proofs.FrontNumbers.{FrontGoesOn}
use Rattle.command_text.proofs.sequence.front_numbers.Given as goal

abbrev pub invariant-loop-front : goal.invariant-loop-front
invariant-loop-front l = FrontGoesOn l.numbers l.rest l.text

abbrev pub decreases-loop-front : goal.decreases-loop-front
decreases-loop-front l = length l.rest
