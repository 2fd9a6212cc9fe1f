use Rattle.std.proofs.Common.{◌≡◌, ◌++◌, true, length}
use Rattle.std.specs.List.{list_all}
use Rattle.shared_map.specs.Chunks.{keys_in, has_key}
use Rattle.shared_map.proofs.chunks.chunks_of.Given as goal

-- the keys of the chunks so far, and those that are left
abbrev pub invariant-loop-rest : goal.invariant-loop-rest
invariant-loop-rest g l = record {
  full : list_all has_key l.chunks.items ≡ true;
  keys : keys_in l.chunks.items ++ l.rest ≡ l.keys;
}

abbrev pub decreases-loop-rest : goal.decreases-loop-rest
decreases-loop-rest g l = length l.rest
