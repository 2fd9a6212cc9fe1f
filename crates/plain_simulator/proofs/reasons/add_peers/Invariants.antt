use Rattle.std.proofs.Common.{◌≡◌, take, fold}
use Rattle.std.specs.List.{filter_map}
use Rattle.std.specs.BTreeSet.{insert_key}
use Rattle.route_select.specs.Selection.{source_cmp}
use Rattle.reference_machine.specs.Decision.{standing_from}
use Rattle.plain_simulator.proofs.reasons.add_peers.Given as goal

-- the peers of the sessions so far are in their places
abbrev pub invariant-loop-from : goal.invariant-loop-from
invariant-loop-from l = l.sources.keys ≡ fold (λ ks e. insert_key source_cmp ks e.0) l.fn.sources.keys
    (filter_map (standing_from l.site l.prefix l.received.entries) (take l.from-index l.sessions))
