use Rattle.std.proofs.Common.{◌≡◌, ◌∙◌, None, cond, sym, ap}
use Rattle.std.specs.List.{filter_map}
use Rattle.std.specs.Option.{option_map, option_copied}
use Rattle.std.proofs.lemmas.Result.{IfOk-weaker}
use Rattle.net_conf.specs.Costs.{is_up}
use Rattle.net_conf.specs.Sites.{site_of}
use Rattle.route_select.specs.Selection.{best_of}
use Rattle.reference_machine.specs.Advertising.{advert_of}
use Rattle.cell_engine.specs.Reporting.{cells_of}
use Rattle.cell_engine.proofs.Reports.{adj_rib_out_by_cells}
use Rattle.sim_core.proofs.sim_report.adj_rib.adj_rib_out.Goals as goal

pub returns : goal.returns
returns g c =
    let e = c.args.state.now in
    let r = c.args.router in
    let t = c.args.peer in
    let up : c.is_up-up.result ≡ is_up e.conf r t = c.is_up-up.ensures ∙ ap (λ k. is_up k r t) c.conf.ensures in
    let site : option_copied c.site-site.result ≡ site_of e.conf r = c.site-site.ensures
    ∙ ap (λ b. cond b None (site_of e.conf r)) c.requires in
    IfOk-weaker c.lines-routes.result _ _ (λ routes is.
    is
    ∙ (λ i. filter_map (λ x. option_map (λ attr. (x.0, attr)) (advert_of (up i) (site i) t x.0 (best_of x.1.standings)))
    (cells_of r e.tables))
    ∙ sym (adj_rib_out_by_cells e c.facts.ensures.sound r c.requires t)) c.lines-routes.ensures
