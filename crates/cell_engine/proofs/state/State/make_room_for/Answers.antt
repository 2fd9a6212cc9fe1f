use Rattle.std.proofs.Common.{ap, ◌∙◌}
use Rattle.cell_engine.specs.State.{State, network}
use Rattle.cell_engine.proofs.Queues.{network_same}
use Rattle.cell_engine.proofs.state.State.make_room_for.Goals as goal

pub returns-clause-network : goal.returns-clause-network
returns-clause-network g c =
    let e : State = record {
      conf = c.self.inside.conf;
      tables = c.self.inside.tables;
      directions = c.self.inside.directions;
      queues = c.self.inside.queues;
    } in
    network_same e c.reserve_each.new.queues c.reserve_each.ensures.queue ∙ ap network c.self.view_is
