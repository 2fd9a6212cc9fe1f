use Rattle.std.proofs.Common.{◌∙◌, sym, ap}
use Rattle.net_conf.specs.Configuration.{has_node}
use Rattle.reference_machine.specs.Network.{Network}
use Rattle.reference_machine.specs.Machine.{ask_refusal}
use Rattle.plain_simulator.proofs.Questions.{asks_somebody}
use Rattle.plain_simulator.proofs.state.State.report.Goals as goal

pub cost_and_hop-requires : goal.cost_and_hop-requires
cost_and_hop-requires g c =
    ap (λ (x : Network). has_node x.conf c.in-Cost.router) c.self.view_is
    ∙ asks_somebody c.args.self.now.conf c.in-Cost.router c.in-Cost.target
    (sym (ap (ask_refusal c.args.self.now.conf) c.in-Cost.is) ∙ c.requires)
