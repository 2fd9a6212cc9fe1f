use Rattle.std.proofs.Common.{◌≡◌, ◌+◌}
use Rattle.path_attr.specs.Path.{AreSegments, number_count, prepended_times}
use Rattle.path_attr.proofs.path.AsPath.prepended_times.Given as goal

-- the AS stands in front so many times, and so many numbers are more
abbrev pub invariant-loop-time : goal.invariant-loop-time
invariant-loop-time l = (l.segments.items ≡ prepended_times l._time l.asn l.self) × AreSegments l.segments.items
    × (number_count l.segments.items ≡ l._time + number_count l.self)
