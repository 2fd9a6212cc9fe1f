use Rattle.std.proofs.Common.{◌∙◌, sym, ap}
use Rattle.net_conf.specs.Configuration.{has_node}
use Rattle.sim_event.specs.declared.event.Ask.{Ask}
use Rattle.sim_event.specs.declared.event.Ask.TheVariants.{Routes, Best, Why, Out, Cost}
use Rattle.reference_machine.specs.Machine.{ask_refusal}
use Rattle.sim_core.proofs.AcceptedQuestions.{asks_somebody, asks_router, first_there}
use Rattle.sim_core.proofs.sim_report.report.Goals as goal

pub loc_rib-requires : goal.loc_rib-requires
loc_rib-requires g c =
    let conf = c.args.state.now.conf in
    asks_router conf (Routes c.in-Routes.router) (sym (ap (ask_refusal conf) c.in-Routes.is) ∙ c.requires)

pub choice-requires : goal.choice-requires
choice-requires g c =
    let conf = c.args.state.now.conf in
    asks_router conf (Best c.in-Best.router c.in-Best.prefix) (sym (ap (ask_refusal conf) c.in-Best.is) ∙ c.requires)

pub reasons-requires : goal.reasons-requires
reasons-requires g c =
    let conf = c.args.state.now.conf in
    asks_router conf (Why c.in-Why.router c.in-Why.prefix) (sym (ap (ask_refusal conf) c.in-Why.is) ∙ c.requires)

pub adj_rib_out-requires : goal.adj_rib_out-requires
adj_rib_out-requires g c =
    let conf = c.args.state.now.conf in
    asks_router conf (Out c.in-Out.router c.in-Out.peer) (sym (ap (ask_refusal conf) c.in-Out.is) ∙ c.requires)

pub cost_and_hop-requires-clause-there : goal.cost_and_hop-requires-clause-there
cost_and_hop-requires-clause-there g c =
    let conf = c.args.state.now.conf in
    let q : Ask = Cost c.in-Cost.router c.in-Cost.target in
    first_there (has_node conf c.in-Cost.router) (has_node conf c.in-Cost.target)
    (asks_somebody conf q (sym (ap (ask_refusal conf) c.in-Cost.is) ∙ c.requires))

pub cost_and_hop-requires-clause-router : goal.cost_and_hop-requires-clause-router
cost_and_hop-requires-clause-router g c =
    let conf = c.args.state.now.conf in
    asks_router conf (Cost c.in-Cost.router c.in-Cost.target) (sym (ap (ask_refusal conf) c.in-Cost.is) ∙ c.requires)
