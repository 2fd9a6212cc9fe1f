use Rattle.std.proofs.Common.{ap, ◌∙◌}
use Rattle.reference_machine.specs.Network.{with_message}
use Rattle.cell_engine.specs.State.{State, network}
use Rattle.cell_engine.proofs.Queues.{network_pushed}
use Rattle.cell_engine.proofs.state.State.push.Goals as goal

pub returns : goal.returns
returns g c =
    let e : State = record {
      conf = c.self.inside.conf;
      tables = c.self.inside.tables;
      directions = c.self.inside.directions;
      queues = c.self.inside.queues;
    } in
    network_pushed e c.push.new.self c.args.direction c.args.message c.push.ensures.queue c.push.ensures.others
    ∙ ap (λ n. record (network n) { queues = with_message c.args.direction c.args.message (network n).queues })
    c.self.view_is
