use Rattle.std.proofs.Common.{◌≡◌, ◌∙◌, [], if◌then◌else◌, sym, ap}
use Rattle.std.specs.List.{filter_map}
use Rattle.std.proofs.lemmas.Result.{IfOk-weaker}
use Rattle.net_conf.specs.Costs.{is_up}
use Rattle.cell_engine.specs.Reporting.{cells_of, route_in}
use Rattle.cell_engine.proofs.Senders.{adj_rib_in_by_cells}
use Rattle.sim_core.proofs.sim_report.adj_rib.adj_rib_in.Goals as goal

pub returns : goal.returns
returns g c =
    let e = c.args.state.now in
    let r = c.args.router in
    let u = c.args.peer in
    let up : c.is_up-up.result ≡ is_up e.conf r u = c.is_up-up.ensures ∙ ap (λ k. is_up k r u) c.conf.ensures in
    IfOk-weaker c.received_if_up.result _ _ (λ routes is.
    is ∙ ap (λ b. if b then filter_map (route_in u) (cells_of r e.tables) else []) up
    ∙ sym (adj_rib_in_by_cells e c.facts.ensures.sound r u)) c.received_if_up.ensures
