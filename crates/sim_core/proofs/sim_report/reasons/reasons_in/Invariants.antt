use Rattle.std.proofs.Common.{◌≡◌, ◌++◌, length, map}
use Rattle.std.specs.List.{filter_map}
use Rattle.route_select.specs.declared.candidate.Source.TheVariants.{Peer as FromPeer}
use Rattle.cell_engine.specs.Reporting.{reason_at, reasons_in, received_past}
use Rattle.sim_core.proofs.sim_report.reasons.reasons_in.Given as goal

-- the reasons so far, and those of the senders that are left, are all
abbrev pub invariant-walk : goal.invariant-walk
invariant-walk g l = l.found.items ++ filter_map (reason_at l.cell.standings)
    (map (λ e. FromPeer e.0) (received_past l.cell.received l.past)) ≡ reasons_in l.cell

abbrev pub decreases-walk : goal.decreases-walk
decreases-walk g l = length (received_past l.cell.received l.past)
