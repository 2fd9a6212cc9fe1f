use Rattle.std.proofs.Common.{◌≡◌, ◌++◌, map, length}
use Rattle.route_tests.specs.Walks.{keys_of, rest_after}
use Rattle.route_tests.proofs.table_use.keys.Given as goal

-- the blocks so far, and those of the entries that are left
abbrev pub invariant-walk : goal.invariant-walk
invariant-walk g l = keys_of (g.T.PrefixTable.table l.table) ≡ l.keys.items
    ++ map (λ e. e.0) (rest_after (g.T.PrefixTable.table l.table) l.after)

abbrev pub decreases-walk : goal.decreases-walk
decreases-walk g l = length (rest_after (g.T.PrefixTable.table l.table) l.after)
