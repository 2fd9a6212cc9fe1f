use Rattle.std.proofs.Common.{unwrap_or, sym, ap, ◌∙◌}
use Rattle.std.proofs.lemmas.Result.{IfOk-weaker}
use Rattle.route_select.specs.Selection.{best_of}
use Rattle.reference_machine.specs.Reports.{held_of}
use Rattle.cell_engine.specs.Cells.{new_cell}
use Rattle.cell_engine.proofs.Decided.{none_best}
use Rattle.cell_engine.proofs.Reports.{choice_by_cell}
use Rattle.sim_core.proofs.sim_report.loc_rib.choice.Goals as goal

pub returns-in-None : goal.returns-in-None
returns-in-None g c =
    let e = c.args.state.now in
    sym (
    choice_by_cell e c.facts.ensures.sound c.args.router c.requires c.args.prefix
    ∙ ap (λ x. held_of c.args.prefix (best_of (unwrap_or x new_cell).standings)) (sym c.in-None.ensures)
    ∙ ap (held_of c.args.prefix) none_best)

pub returns-in-Some : goal.returns-in-Some
returns-in-Some g c =
    let e = c.args.state.now in
    IfOk-weaker c.held_in.result _ _ (λ held is.
    is
    ∙ sym (choice_by_cell e c.facts.ensures.sound c.args.router c.requires c.args.prefix
    ∙ ap (λ x. held_of c.args.prefix (best_of (unwrap_or x new_cell).standings)) (sym c.in-Some.ensures)))
    c.held_in.ensures
