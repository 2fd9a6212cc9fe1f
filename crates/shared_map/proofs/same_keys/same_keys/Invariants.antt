use Rattle.std.proofs.Common.{◌≡◌, ◌++◌, [], length}
use Rattle.std.specs.Cmp.Lexicographic.{pointwise}
use Rattle.shared_map.specs.Chunks.{keys_in}
use Rattle.shared_map.proofs.same_keys.same_keys.Given as goal

-- whether all are the same is whether those that are left are
abbrev pub invariant-loop-our : goal.invariant-loop-our
invariant-loop-our g l = record {
  same : pointwise g.K.PartialEq.eq (l.ours.part.now ++ keys_in l.ours.rest.now)
      (l.theirs.part.now ++ keys_in l.theirs.rest.now) ≡ pointwise g.K.PartialEq.eq (keys_in l.one) (keys_in l.other);
  ours : l.ours.part.now ≡ [] → keys_in l.ours.rest.now ≡ [];
  theirs : l.theirs.part.now ≡ [] → keys_in l.theirs.rest.now ≡ [];
}

abbrev pub decreases-loop-our : goal.decreases-loop-our
decreases-loop-our g l = length (l.ours.part.now ++ keys_in l.ours.rest.now)
