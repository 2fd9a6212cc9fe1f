use Rattle.std.proofs.Common.{◌≡◌, ◌++◌, take}
use Rattle.shared_map.proofs.chunks.add_shared.Given as goal

-- the chunks so far are added
abbrev pub invariant-loop-other : goal.invariant-loop-other
invariant-loop-other g l = l.chunks.items ≡ l.fn.chunks.items ++ take l.other-index l.others
