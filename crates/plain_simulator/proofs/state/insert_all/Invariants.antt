use Rattle.std.proofs.Common.{◌≡◌, take, fold}
use Rattle.std.specs.BTreeSet.{insert_key}
use Rattle.net_prefix.specs.Prefix.{prefix_cmp}
use Rattle.plain_simulator.proofs.state.insert_all.Given as goal

-- the prefixes so far are in their places
abbrev pub invariant-loop-prefix : goal.invariant-loop-prefix
invariant-loop-prefix l = l.found.keys ≡ fold (λ qs p. insert_key prefix_cmp qs p) l.fn.found.keys
    (take l.prefix-index l.prefixes)
