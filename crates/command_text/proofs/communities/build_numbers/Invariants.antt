use Rattle.std.proofs.Common.{length}
use Rattle.command_text.specs.Ascending.{HasFrom}
use Rattle.command_text.proofs.Numbers.{NumbersGoOn}
use Rattle.command_text.proofs.communities.build_numbers.Given as goal

abbrev pub invariant-loop-first : goal.invariant-loop-first
invariant-loop-first l = record { left : HasFrom 0 l.rest; on : NumbersGoOn 0 l.numbers.items l.rest l.text }

abbrev pub decreases-loop-first : goal.decreases-loop-first
decreases-loop-first l = length l.rest
