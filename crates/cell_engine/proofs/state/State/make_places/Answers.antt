use Rattle.std.proofs.Common.{subst}
use Rattle.cell_engine.specs.State.{State}
use Rattle.cell_engine.specs.Deliveries.{KeepsSame}
use Rattle.cell_engine.proofs.Growth.{same_with_places}
use Rattle.cell_engine.proofs.state.State.make_places.Goals as goal

pub returns-clause-same : goal.returns-clause-same
returns-clause-same g c =
    let e : State = record {
      conf = c.self.inside.conf;
      tables = c.self.inside.tables;
      directions = c.self.inside.directions;
      queues = c.self.inside.queues;
    } in
    subst (λ n. KeepsSame n (record e { queues = c.make_ready.new.queues })) c.self.view_is
    (same_with_places e c.make_ready.new.queues c.make_ready.ensures.queue)
