use Rattle.std.proofs.Common.{rules, ◌≡◌, ap}
use Rattle.net_conf.specs.RouterSites.{router_site}
use Rattle.session_queue.specs.Telling.{prefix_of}
use Rattle.cell_engine.specs.State.{cell_at}
use Rattle.cell_engine.specs.Sharing.{conf_shown}
use Rattle.room.specs.Jobs.{Job}
use Rattle.room.proofs.Taken.{can_decide}
use Rattle.room.proofs.room.Room.job_of.Goals as goal

pub invariant_of-result : goal.invariant_of-result
invariant_of-result g c =
    let e = c.args.self.now.engine in
    let x : Job = record {
      direction = c.args.direction;
      version = c.self.inside.version;
      head = c.in-Ok-to_message.head;
      site = router_site (conf_shown c.in-Ok.conf) c.args.direction.to;
      cell = c.in_ok-cell.cell;
    } in
    let conf : conf_shown c.in-Ok.conf ≡ e.conf = search rules in
    let cell : c.in_ok-cell.cell ≡ cell_at c.args.direction.to (prefix_of c.in-Ok-to_message.head) e.tables =
    search rules in
    can_decide e c.engine_facts.ensures.sound c.engine_facts.ensures.configured x
    (ap (λ k. router_site k c.args.direction.to) conf) cell
