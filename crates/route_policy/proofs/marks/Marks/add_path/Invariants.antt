use Rattle.std.proofs.Common.{◌≡◌, drop}
use Rattle.route_policy.specs.Marks.{with_path}
use Rattle.route_policy.proofs.marks.Marks.add_path.Given as goal

abbrev pub invariant-loop-segment : goal.invariant-loop-segment
invariant-loop-segment l = with_path l.fn.self.words l.segments
    ≡ with_path l.self.words (drop l.segment-index l.segments)
