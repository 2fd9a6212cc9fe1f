use Rattle.std.proofs.Common.{◌≡◌, take}
use Rattle.shared_map.proofs.entries.owned_copies.Given as goal

-- the entries so far are copied
abbrev pub invariant-loop-entry : goal.invariant-loop-entry
invariant-loop-entry g l = l.owned.items ≡ take l.entry-index l.entries
