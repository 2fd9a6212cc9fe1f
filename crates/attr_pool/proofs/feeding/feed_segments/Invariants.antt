use Rattle.std.proofs.Common.{◌≡◌, drop}
use Rattle.std.specs.List.{flat_map, fold}
use Rattle.attr_pool.specs.Hashing.{segment_input}
use Rattle.attr_pool.proofs.feeding.feed_segments.Given as goal

-- what is left takes the hasher to where the whole takes it
abbrev pub invariant-loop-segment : goal.invariant-loop-segment
invariant-loop-segment g l = fold g.H.Hasher.write l.state (flat_map segment_input (drop l.segment-index l.segments))
    ≡ fold g.H.Hasher.write l.initial.state (flat_map segment_input l.segments)
