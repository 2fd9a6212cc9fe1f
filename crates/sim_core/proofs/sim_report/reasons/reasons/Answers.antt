use Rattle.std.proofs.Common.{unwrap_or, option_map, sym, ap, ◌∙◌, [], false}
use Rattle.std.specs.FinMap as finite
use Rattle.std.specs.List.{cons_option}
use Rattle.std.proofs.lemmas.Result.{IfOk-weaker}
use Rattle.route_select.specs.declared.candidate.Source.TheVariants.{Own}
use Rattle.route_select.specs.Selection.{source_cmp, considered, no_standings, reason_for}
use Rattle.cell_engine.specs.Cells.{new_cell}
use Rattle.cell_engine.specs.Reporting.{reasons_in}
use Rattle.cell_engine.proofs.Reasons.{reasons_by_cell}
use Rattle.sim_core.proofs.sim_report.reasons.reasons.Goals as goal

pub returns-in-None : goal.returns-in-None
returns-in-None g c =
    let e = c.args.state.now in
    c.new.ensures.items
    ∙ sym (
    reasons_by_cell e c.facts.ensures.sound c.args.router c.args.prefix c.requires
    ∙ ap (λ x. reasons_in (unwrap_or x new_cell)) (sym c.in-None.ensures)
    ∙ ap (λ o. cons_option (option_map (λ reason. (Own, reason))
    (option_map (reason_for false (considered (no_standings false))) o)) []) (finite.get-empty source_cmp Own))

pub returns-in-Some : goal.returns-in-Some
returns-in-Some g c =
    let e = c.args.state.now in
    IfOk-weaker c.reasons_in.result _ _ (λ found is.
    is
    ∙ sym (reasons_by_cell e c.facts.ensures.sound c.args.router c.args.prefix c.requires
    ∙ ap (λ x. reasons_in (unwrap_or x new_cell)) (sym c.in-Some.ensures))) c.reasons_in.ensures
