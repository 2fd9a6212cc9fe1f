use Rattle.std.proofs.Common.{◌≡◌, map, take}
use Rattle.route_tests.proofs.table_use.keys_at_once.Given as goal

-- the blocks so far
abbrev pub invariant-loop-entry : goal.invariant-loop-entry
invariant-loop-entry g l = l.keys.items ≡ map (λ e. e.0) (take l.entry-index l.entry-items)
