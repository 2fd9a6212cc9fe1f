use Rattle.std.proofs.Common.{length}
use Rattle.command_text.specs.Paths.{HasNumbers}
use Rattle.command_text.proofs.path.are_numbers.Given as goal

abbrev pub invariant-loop-first : goal.invariant-loop-first
invariant-loop-first l = record {
  up : HasNumbers l.rest → HasNumbers l.text;
  down : HasNumbers l.text →
      HasNumbers l.rest;
}

abbrev pub decreases-loop-first : goal.decreases-loop-first
decreases-loop-first l = length l.rest
