use Rattle.std.proofs.Common.{refl}
use Rattle.std.proofs.lemmas.Bool.{false≢true}
use Rattle.command_text.proofs.Segments.{segments_first, segments_after, segments_more, segments_last, segments_one}
use Rattle.command_text.proofs.path.are_segments.Goals as goal

pub returns-then-not-is_segment : goal.returns-then-not-is_segment
returns-then-not-is_segment c = (
  λ e. absurd (false≢true e),
  λ has. c.if-not-is_segment.ensures.1 (segments_first _ _ _ c.in-Some.ensures.whole c.in-Some.ensures.first
      (c.loop-first.invariant.down has)),
)

pub loop-first-preserved : goal.loop-first-preserved
loop-first-preserved c = record {
  up = λ has. c.loop-first.invariant.up
      (segments_more _ _ _ c.in-Some.ensures.whole (c.if-not-is_segment.ensures.0 refl) has);
  down = λ has. segments_after _ _ _ c.in-Some.ensures.whole c.in-Some.ensures.first (c.loop-first.invariant.down has);
}

pub returns : goal.returns
returns c = (
  λ e. c.loop-first.invariant.up (segments_one _ (c.is_segment-2.ensures.0 e)),
  λ has. c.is_segment-2.ensures.1 (segments_last _ c.in_default.ensures.none (c.loop-first.invariant.down has)),
)
