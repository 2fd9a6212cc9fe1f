use Rattle.std.proofs.Common.{length}
use Rattle.command_text.specs.Paths.{HasNumbers}
use Rattle.command_text.proofs.Numbers.{NumbersGoOn}
use Rattle.command_text.proofs.path.read_numbers.Given as goal

abbrev pub invariant-loop-first : goal.invariant-loop-first
invariant-loop-first l = record {
  down : HasNumbers l.text → HasNumbers l.rest;
  on : NumbersGoOn 1 l.numbers l.rest l.text;
}

abbrev pub decreases-loop-first : goal.decreases-loop-first
decreases-loop-first l = length l.rest
