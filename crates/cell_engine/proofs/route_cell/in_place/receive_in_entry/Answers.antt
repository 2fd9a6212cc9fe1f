use Rattle.std.proofs.Common.{◌≤◌, length, option_copied, ap, sym, subst, ◌∙◌}
use Rattle.cell_engine.specs.Cells.{stored}
use Rattle.cell_engine.specs.Deliveries.{outcome_by}
use Rattle.cell_engine.specs.Sending.{told}
use Rattle.cell_engine.proofs.Seen.{when_ok}
use Rattle.cell_engine.proofs.route_cell.in_place.receive_in_entry.Goals as goal

pub decide_in_entry-requires-clause-one : goal.decide_in_entry-requires-clause-one
decide_in_entry-requires-clause-one g c t =
    subst (λ o. length (told t
    (outcome_by (option_copied o) c.args.cell.now c.args.direction.from c.args.message.now).sends) ≤ 1) c.in-Some.is
    (c.requires.one t)

pub returns-in-None-clause-sends : goal.returns-in-None-clause-sends
unfolding stored
returns-in-None-clause-sends g c =
    when_ok c.store_in.result _ _ (λ sends is. is
    ∙ ap (λ o. (outcome_by (option_copied o) c.args.cell.now c.args.direction.from c.args.message.now).sends)
    (sym c.in-None.is)) c.store_in.ensures.sends
