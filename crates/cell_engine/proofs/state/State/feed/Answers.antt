use Rattle.std.proofs.Common.{◌≡◌, Result, Ok, Err, OnOk, ap, ◌∙◌}
use Rattle.reference_machine.specs.Network.{with_message}
use Rattle.cell_engine.specs.State.{State, network}
use Rattle.cell_engine.proofs.Growth.{at_error}
use Rattle.cell_engine.proofs.Pushes.{queue_kept}
use Rattle.cell_engine.proofs.Queues.{network_pushed, network_same}
use Rattle.cell_engine.proofs.state.State.feed.Goals as goal

at_ok : {A F P Q : Type 0} (r : Result A F) → (P → Q) → OnOk r P → OnOk r Q
at_ok (Ok x) f p = f p
at_ok (Err x) f p = tt

pub returns-clause-next : goal.returns-clause-next
returns-clause-next g c =
    let e : State = record {
      conf = c.self.inside.conf;
      tables = c.self.inside.tables;
      directions = c.self.inside.directions;
      queues = c.self.inside.queues;
    } in
    at_ok c.put.result (λ queue.
    network_pushed e c.put.new.self c.args.direction c.args.message queue c.put.ensures.others
    ∙ ap (λ n. record (network n) { queues = with_message c.args.direction c.args.message (network n).queues })
    c.self.view_is) c.put.ensures.queue

pub returns-clause-same : goal.returns-clause-same
returns-clause-same g c =
    let e : State = record {
      conf = c.self.inside.conf;
      tables = c.self.inside.tables;
      directions = c.self.inside.directions;
      queues = c.self.inside.queues;
    } in
    let d = c.args.direction in
    at_error c.put.result (λ queue.
    network_same e c.put.new.self (queue_kept d.from d.to e.queues c.put.new.self c.put.ensures.others queue)
    ∙ ap network c.self.view_is) c.put.ensures.same
