use Rattle.std.proofs.Common.{length}
use Rattle.command_text.specs.Paths.{HasSegments}
use Rattle.command_text.proofs.Segments.{SegmentsGoOn}
use Rattle.command_text.proofs.path.read_segments.Given as goal

abbrev pub invariant-loop-first : goal.invariant-loop-first
invariant-loop-first l = record {
  down : HasSegments l.text → HasSegments l.rest;
  on : SegmentsGoOn l.segments.items l.rest l.text;
}

abbrev pub decreases-loop-first : goal.decreases-loop-first
decreases-loop-first l = length l.rest
