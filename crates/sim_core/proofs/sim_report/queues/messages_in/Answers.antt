use Rattle.std.proofs.Common.{◌++◌, ◌∷◌, [], sym, ◌∙◌, arith}
use Rattle.session_queue.specs.Waiting.{queue_at}
use Rattle.session_queue.specs.Telling.{message_of}
use Rattle.sim_core.proofs.Lists.{one_more}
use Rattle.sim_core.proofs.sim_report.queues.messages_in.Goals as goal

pub loop-index-preserved : goal.loop-index-preserved
loop-index-preserved c =
    let all = queue_at c.args.queues.now c.args.direction.from c.args.direction.to in
    let test = c.loop-index-test.true in
    record {
      so_far =
          c.in_ok-push-in-Some.ensures.items
          ∙ (λ i. c.loop-index.invariant.so_far i ++ c.in_ok-to_message-in-Some.ensures i ∷ [])
          ∙ sym (one_more all c.loop-index.index (message_of c.in-Some.message) (sym c.in-Some.ensures));
      in_range = omega (arith, test);
      end = c.loop-index.invariant.end;
    }
