use Rattle.std.proofs.Common.{sym, ◌∙◌}
use Rattle.sim_core.proofs.Forwarding.{ends_without_match, ends_without_site, goes_by_best}
use Rattle.sim_core.proofs.Routers.{costs_of_site}
use Rattle.sim_core.proofs.sim_report.trace.by_prefix.Goals as goal

pub returns-in_default : goal.returns-in_default
returns-in_default g c = sym (ends_without_match c.args.state.now c.args.at c.args.target c.in_default.ensures.none)

pub returns-in-None : goal.returns-in-None
returns-in-None g c = sym (ends_without_site c.args.state.now c.args.at c.args.target c.in-Some.found.0 c.requires
    (sym c.in-None.ensures) c.in-Some.ensures.found)

pub returns-in-Some-site : goal.returns-in-Some-site
returns-in-Some-site g c =
    let e = c.args.state.now in
    c.by_route-look.ensures
    ∙ sym (goes_by_best e c.args.at c.args.target c.in-Some.found.0 c.in-Some.found.1.now c.in-Some-site.site.now.costs
    (costs_of_site e.conf c.args.at c.in-Some-site.site.now (sym c.in-Some-site.ensures)) c.in-Some.ensures.found
    c.in-Some.ensures.best)
