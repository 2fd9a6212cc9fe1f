use Rattle.std.proofs.Common.{option_map, sym, ap, ◌∙◌}
use Rattle.std.specs.Option.{option_and_then}
use Rattle.igp_cost.specs.Trees.{cost_in, first_hop_in}
use Rattle.reference_machine.specs.Reports.{cost_and_hop}
use Rattle.cell_engine.specs.State.{network}
use Rattle.sim_core.proofs.Routers.{has_site, costs_of_site}
use Rattle.sim_core.proofs.sim_report.costs.cost_and_hop.Goals as goal

pub unreachable-requires : goal.unreachable-requires
unreachable-requires g c = has_site c.args.state.now.conf c.args.router c.requires.there c.requires.router
    (sym c.in-None.ensures)

pub returns : goal.returns
unfolding cost_and_hop network
returns g c =
    c.cost_and_hop_in-way.ensures
    ∙ ap (λ t. option_and_then (λ n. option_map (λ hop. (n, hop)) (first_hop_in t c.args.target))
    (cost_in t c.args.target)) (costs_of_site c.args.state.now.conf c.args.router c.in-Some.site.now
    (sym c.in-Some.ensures))
