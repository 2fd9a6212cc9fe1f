use Rattle.std.proofs.Common.{◌∙◌, sym}
use Rattle.std.proofs.lemmas.Result.{IfOk-weaker}
use Rattle.cell_engine.proofs.Reports.{loc_rib_by_cells}
use Rattle.sim_core.proofs.sim_report.loc_rib.loc_rib.Goals as goal

pub returns : goal.returns
returns g c = IfOk-weaker c.lines.result _ _ (λ routes is. is
    ∙ sym (loc_rib_by_cells c.args.state.now c.facts.ensures.sound c.args.router c.requires)) c.lines.ensures
