-- What callers of any table say of it.
use Rattle.std.specs.Prelude.{List, map, filter, Option}
use Rattle.std.specs.FinMap as fin
use Rattle.net_prefix.specs.Prefix.{Prefix}
use Rattle.prefix_table.specs.Tables.{Table, is_after}

-- the keys, in order
abbrev pub keys_of : {V : Type 0} → Table V → List Prefix
keys_of t = map (λ e. e.0) (fin.entries t)

-- the entries after a prefix, or all
abbrev pub rest_after : {V : Type 0} → Table V → Option Prefix → List (Prefix × V)
rest_after t after = filter (λ e. is_after after e.0) (fin.entries t)
