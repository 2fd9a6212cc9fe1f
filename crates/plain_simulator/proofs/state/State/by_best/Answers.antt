use Rattle.std.proofs.Common.{◌∙◌, sym, ap}
use Rattle.net_conf.specs.Costs.{costs_of}
use Rattle.route_select.specs.Selection.{best_of}
use Rattle.reference_machine.specs.Network.{Network}
use Rattle.reference_machine.specs.Decision.{standings}
use Rattle.reference_machine.specs.Tracing.{by_route}
use Rattle.plain_simulator.proofs.Sites.{none_chosen, chosen_at, site_costs}
use Rattle.plain_simulator.proofs.state.State.by_best.Goals as goal

pub returns-in-None : goal.returns-in-None
returns-in-None g c =
    let s = c.args.self.now in
    ap (by_route (costs_of s.conf c.args.at) c.args.at c.args.prefix)
    (sym (none_chosen s c.args.at c.args.prefix (sym c.requires ∙ c.in-None.is)))

pub returns-in_ok-best-in-Some : goal.returns-in_ok-best-in-Some
returns-in_ok-best-in-Some g c =
    let s = c.args.self.now in
    let site = c.in-Some.here in
    c.by_route.ensures
    ∙ ap (λ t. by_route t c.args.at c.args.prefix c.in_ok-best-in-Some.best)
    (site_costs s.conf c.args.at site (sym c.requires ∙ c.in-Some.is))
    ∙ ap (by_route (costs_of s.conf c.args.at) c.args.at c.args.prefix) (c.in_ok-best-in-Some.ensures
    ∙ ap (λ (x : Network). best_of (standings site c.args.prefix x.received)) c.self.view_is
    ∙ sym (chosen_at s c.args.at c.args.prefix site (sym c.requires ∙ c.in-Some.is)))
