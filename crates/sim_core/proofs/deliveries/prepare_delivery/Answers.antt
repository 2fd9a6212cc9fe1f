use Rattle.sim_core.proofs.Refusals.{delivery_wants}
use Rattle.sim_core.proofs.deliveries.prepare_delivery.Goals as goal

pub returns-clause-prepares : goal.returns-clause-prepares
returns-clause-prepares g c =
    delivery_wants c.args.state.now c.plan_delivery.new.state c.plan_delivery.ensures.network c.facts.ensures.sound
    c.args.direction c.in_ok-message.message c.in_ok-message.ensures.allowed c.in_ok-message.ensures.head
