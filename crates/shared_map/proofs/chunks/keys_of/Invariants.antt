use Rattle.std.proofs.Common.{◌≡◌, take}
use Rattle.shared_map.specs.Chunks.{keys_in}
use Rattle.shared_map.proofs.chunks.keys_of.Given as goal

-- the keys of the chunks so far
abbrev pub invariant-loop-chunk : goal.invariant-loop-chunk
invariant-loop-chunk g l = l.keys.items ≡ keys_in (take l.chunk-index l.chunks)
