use Rattle.std.proofs.Common.{List, sym, subst}
use Rattle.path_attr.specs.declared.path.Segment.{Segment}
use Rattle.sim_event.specs.Wording.{segment_text}
use Rattle.command_text.specs.Paths.{IsPart}
use Rattle.command_text.proofs.Readings.{reads_at, none_at}
use Rattle.command_text.proofs.Segments.{SegmentsGoOn, segments_first, segments_after, segments_last, segments_go_more}
use Rattle.command_text.proofs.path.read_segments.Goals as goal

pub returns-in_default-2-clause-none : goal.returns-in_default-2-clause-none
returns-in_default-2-clause-none c has =
    let one = segments_first _ _ _ c.in-Some.ensures.whole c.in-Some.ensures.first (c.loop-first.invariant.down has) in
    none_at IsPart segment_text _ _ c.in_default-2.is c.in_ok-segment.ensures one

pub loop-first-preserved : goal.loop-first-preserved
loop-first-preserved c =
    let made = reads_at IsPart segment_text _ _ _ c.in-Some-2.is c.in_ok-segment.ensures in
    let on = segments_go_more c.loop-first.segments.items c.in-Some-2.segment _ _ _ _ c.in-Some.ensures.whole made.0
    made.1 c.loop-first.invariant.on in
    record {
      down = λ has. segments_after _ _ _ c.in-Some.ensures.whole c.in-Some.ensures.first
          (c.loop-first.invariant.down has);
      on = subst (λ ss. SegmentsGoOn ss c.in-Some.after.now c.args.text.now)
          (sym {A = List Segment} c.in_ok-push.ensures.items) on;
    }

pub returns-in_default-3-clause-none : goal.returns-in_default-3-clause-none
returns-in_default-3-clause-none c has =
    let one = segments_last _ c.in_default.ensures.none (c.loop-first.invariant.down has) in
    none_at IsPart segment_text _ _ c.in_default-3.is c.in_ok-segment-2.ensures one
