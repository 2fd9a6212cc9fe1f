use Rattle.std.proofs.Common.{length}
use Rattle.command_text.specs.Ascending.{HasAscending}
use Rattle.command_text.proofs.ascending.are_ascending.Given as goal

abbrev pub invariant-loop-first : goal.invariant-loop-first
invariant-loop-first l = record {
  up : HasAscending l.low l.rest → HasAscending l.least l.text;
  down : HasAscending l.least l.text → HasAscending l.low l.rest;
}

abbrev pub decreases-loop-first : goal.decreases-loop-first
decreases-loop-first l = length l.rest
