use Rattle.std.proofs.Common.{arith, ◌≡◌, ◌∙◌, ap, take, map}
use Rattle.std.proofs.lemmas.List.{take_all}
use Rattle.reference_machine.specs.Network.{with_more}
use Rattle.reference_machine.specs.Advertising.{sent}
use Rattle.reference_machine.specs.declared.rows.Queue.{Queue}
use Rattle.plain_simulator.proofs.Lists.{map_pushed}
use Rattle.plain_simulator.proofs.MessagesOfChoices.{kept_choices}
use Rattle.plain_simulator.proofs.state.queues_after.Goals as goal

pub loop-queue-preserved : goal.loop-queue-preserved
loop-queue-preserved g c = record {
  done = map_pushed (λ q. with_more q (sent c.args.earlier.now c.args.later.now q.of.from q.of.to))
      _ _ c.queue-item.result _ _ _ c.loop-queue-test.true c.queue-item.is
      (c.in_ok-with_more.ensures ∙ ap (with_more c.queue-item.result) c.in_ok-messages.ensures)
      c.loop-queue.invariant.done
      c.in_ok-push.ensures.items;
  kept = kept_choices c.args.earlier.now c.args.later.now c.queue-item.result.of.from c.in_ok-choices.choices
      c.in_ok-choices.ensures;
}

pub returns : goal.returns
returns g c =
    let f : Queue → Queue = λ q. with_more q (sent c.args.earlier.now c.args.later.now q.of.from q.of.to) in
    let all : take c.loop-queue.queue-index c.deref-queue-items.result.now ≡ c.deref-queue-items.result.now =
    take_all _ _ (omega arith) in
    c.loop-queue.invariant.done
    ∙ ap (map f) (all ∙ c.deref-queue-items.ensures.value ∙ ap (λ n. n.queues) c.later.view_is)
