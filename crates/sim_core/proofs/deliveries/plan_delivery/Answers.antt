use Rattle.std.proofs.Common.{◌≡◌, Some, None, sym, ap, subst, ◌∙◌}
use Rattle.net_prefix.specs.Prefix.{Prefix}
use Rattle.session_queue.specs.declared.message.MessageKind.{MessageKind}
use Rattle.session_queue.specs.Telling.{prefix_of}
use Rattle.sim_event.specs.declared.event.Event.TheVariants.{Deliver}
use Rattle.sim_event.specs.declared.reply.Reply.TheVariants.{Took}
use Rattle.sim_core.specs.Counting.{decided_at}
use Rattle.sim_core.specs.Plans.{Plan, Taken, IsPrepared}
use Rattle.sim_core.proofs.Prepared.{prepared_delivery}
use Rattle.sim_core.proofs.deliveries.plan_delivery.Goals as goal

pub returns-clause-plan : goal.returns-clause-plan
returns-clause-plan g c =
    let d = c.args.direction in
    let m = c.args.message.now in
    let o = c.in_ok-outcome.outcome in
    let e = c.outcome.new.self in
    let cells = c.in-Ok.refreshed.items in
    let are : cells ≡ decided_at e.conf d.to (prefix_of m) = c.in-Ok.ensures
    ∙ ap (decided_at e.conf d.to) c.prefix-prefix.ensures in
    let plan : Prefix → MessageKind → Plan = λ p k. record {
      reply = Took p k;
      refreshed = cells;
      pushed = None;
      taken = Some (record { direction = d; prefix = p; outcome = o });
      edited = None;
    } in
    let is = prepared_delivery c.args.state.now e c.outcome.ensures.same c.facts.ensures.sound d m o c.requires.allowed
    c.requires.head c.in_ok-outcome.ensures.outcome c.in_ok-outcome.ensures.room cells are in
    let boxed : Taken → Plan = λ t. record {
      reply = Took c.prefix-prefix.result c.kind.result;
      refreshed = cells;
      pushed = None;
      taken = Some t;
      edited = None;
    } in
    subst (λ t. IsPrepared e (Deliver d.from d.to) (boxed t)) (sym c.in-Ok-new.ensures.ok)
    (subst (λ p. IsPrepared e (Deliver d.from d.to) (plan p c.kind.result)) (sym c.prefix-prefix.ensures)
    (subst (λ k. IsPrepared e (Deliver d.from d.to) (plan (prefix_of m) k)) (sym c.kind.ensures) is))
