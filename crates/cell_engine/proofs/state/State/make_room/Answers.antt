use Rattle.std.proofs.Common.{◌≤◌, List, length, ap, sym, subst, ◌∙◌}
use Rattle.net_prefix.specs.declared.addr.Addr.{Addr}
use Rattle.session_queue.specs.declared.message.Message.{Message}
use Rattle.cell_engine.specs.State.{State, network}
use Rattle.cell_engine.specs.Sending.{told}
use Rattle.cell_engine.proofs.Queues.{network_same}
use Rattle.cell_engine.proofs.Growth.{network_kept}
use Rattle.cell_engine.proofs.state.State.make_room.Goals as goal

pub returns-in_err-grow_unless-clause-network : goal.returns-in_err-grow_unless-clause-network
returns-in_err-grow_unless-clause-network g c =
    network_kept c.args.self.now c.grow_unless.new.self c.grow_unless.ensures.same

pub make_ready-requires : goal.make_ready-requires
make_ready-requires g c =
    subst (λ (l : List (Addr × Message)). (t : Addr) → length (told t l) ≤ 1)
    (sym (c.deref.ensures.value ∙ ap (λ o. o.sends) c.outcome.view_is)) c.requires.one

pub returns-clause-network : goal.returns-clause-network
returns-clause-network g c =
    let e : State = record {
      conf = c.self.inside.conf;
      tables = c.self.inside.tables;
      directions = c.self.inside.directions;
      queues = c.self.inside.queues;
    } in
    network_same e c.make_ready.new.queues c.make_ready.ensures.queue
    ∙ ap network c.self.view_is
    ∙ network_kept c.args.self.now c.grow_unless.new.self c.grow_unless.ensures.same
