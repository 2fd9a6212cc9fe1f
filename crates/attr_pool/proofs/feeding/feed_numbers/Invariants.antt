use Rattle.std.proofs.Common.{◌≡◌, length}
use Rattle.std.specs.List.{fold}
use Rattle.attr_pool.specs.Hashing.{paired}
use Rattle.attr_pool.proofs.feeding.feed_numbers.Given as goal

-- what is left takes the hasher to where the whole takes it
abbrev pub invariant-loop-rest : goal.invariant-loop-rest
invariant-loop-rest g l = fold g.H.Hasher.write l.state (paired g.T.Numbered.number l.rest)
    ≡ fold g.H.Hasher.write l.initial.state (paired g.T.Numbered.number l.items)

abbrev pub decreases-loop-rest : goal.decreases-loop-rest
decreases-loop-rest g l = length l.rest
