use Rattle.std.proofs.Common.{ap, ◌∙◌}
use Rattle.cell_engine.specs.State.{State, network}
use Rattle.cell_engine.proofs.Pushes.{queue_kept}
use Rattle.cell_engine.proofs.Queues.{network_same}
use Rattle.cell_engine.proofs.state.State.reserve_one.Goals as goal

pub returns-clause-network : goal.returns-clause-network
returns-clause-network g c =
    let e : State = record {
      conf = c.self.inside.conf;
      tables = c.self.inside.tables;
      directions = c.self.inside.directions;
      queues = c.self.inside.queues;
    } in
    let d = c.args.direction in
    let kept = queue_kept d.from d.to c.admit.new.queues c.reserve.new.self c.reserve.ensures.others
    c.reserve.ensures.queue in
    network_same e c.reserve.new.self (λ f t. kept f t ∙ c.admit.ensures.queue f t)
    ∙ ap network c.self.view_is

pub returns-in_err-admit-clause-network : goal.returns-in_err-admit-clause-network
returns-in_err-admit-clause-network g c =
    let e : State = record {
      conf = c.self.inside.conf;
      tables = c.self.inside.tables;
      directions = c.self.inside.directions;
      queues = c.self.inside.queues;
    } in
    network_same e c.admit.new.queues c.admit.ensures.queue ∙ ap network c.self.view_is
