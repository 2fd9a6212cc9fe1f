use Rattle.std.proofs.Common.{length}
use Rattle.command_text.specs.Paths.{HasSegments}
use Rattle.command_text.proofs.path.are_segments.Given as goal

abbrev pub invariant-loop-first : goal.invariant-loop-first
invariant-loop-first l = record {
  up : HasSegments l.rest → HasSegments l.text;
  down : HasSegments l.text →
      HasSegments l.rest;
}

abbrev pub decreases-loop-first : goal.decreases-loop-first
decreases-loop-first l = length l.rest
