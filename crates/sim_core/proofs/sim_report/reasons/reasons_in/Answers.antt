use Rattle.std.proofs.Common.{◌++◌, ◌∷◌, map, length, Some, None, refl, sym, ap, ◌∙◌, arith}
use Rattle.std.specs.Option.{option_to_list}
use Rattle.route_select.specs.declared.candidate.Source.TheVariants.{Own, Peer as FromPeer}
use Rattle.cell_engine.specs.Cells.{Cell}
use Rattle.cell_engine.specs.Reporting.{reason_at, reasons_in, sources_in, received_past}
use Rattle.cell_engine.proofs.Walks.{senders_begin, senders_step, senders_end}
use Rattle.sim_core.proofs.Lists.{said_none, said_more, said_all}
use Rattle.sim_core.proofs.sim_report.reasons.reasons_in.Goals as goal

pub walk-init : goal.walk-init
walk-init g c =
    let h : Cell = c.args.cell.now in
    let first = c.new-found.result.items in
    said_more (reason_at h.standings) first c.push_some.new.items.items (sources_in h)
    (map (λ e. FromPeer e.0) (received_past h.received None)) Own (reasons_in h)
    (c.in_ok-push_some.ensures.ok ∙ ap (λ o. first ++ option_to_list o) c.reason_at.ensures)
    (ap (λ l. Own ∷ map (λ e. FromPeer e.0) l) (sym (senders_begin h.received)))
    (said_none (reason_at h.standings) first (sources_in h) (sources_in h) c.new-found.ensures.items refl)

pub returns-in-None : goal.returns-in-None
returns-in-None g c =
    let h : Cell = c.args.cell.now in
    said_all (reason_at h.standings) c.walk.found.items (map (λ e. FromPeer e.0) (received_past h.received c.walk.past))
    (reasons_in h)
    (ap (map (λ e. FromPeer e.0)) (senders_end h.received c.walk.past (sym c.in-None.ensures.next))) c.walk.invariant

pub walk-smaller : goal.walk-smaller
walk-smaller g c =
    let h : Cell = c.args.cell.now in
    let next = ap length (senders_step h.received c.walk.past (
      c.in-Some.sender,
      c.in-Some.field-0-1.now,
    ) c.in-Some.ensures.order (sym c.in-Some.ensures.next)) in
    omega (arith, next)

pub walk-preserved : goal.walk-preserved
walk-preserved g c =
    let h : Cell = c.args.cell.now in
    let sender = c.in-Some.sender in
    said_more (reason_at h.standings) c.walk.found.items c.push_some-in-Some.new.items.items
    (map (λ e. FromPeer e.0) (received_past h.received c.walk.past))
    (map (λ e. FromPeer e.0) (received_past h.received (Some sender))) (FromPeer sender) (reasons_in h)
    (c.in_ok-push_some-in-Some.ensures.ok
    ∙ ap (λ o. c.walk.found.items ++ option_to_list o) c.reason_at-in-Some.ensures)
    (ap (map (λ e. FromPeer e.0)) (senders_step h.received c.walk.past (
      sender,
      c.in-Some.field-0-1.now,
    ) c.in-Some.ensures.order (sym c.in-Some.ensures.next)))
    c.walk.invariant
