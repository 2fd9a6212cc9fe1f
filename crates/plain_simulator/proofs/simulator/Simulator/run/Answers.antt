use Rattle.std.proofs.Common.{◌≡◌, ◌++◌, [], ◌∷◌, ◌+◌, ◌∙◌, ap, arith}
use Rattle.plain_simulator.proofs.Runs.{step_before, told_more, told_all}
use Rattle.plain_simulator.proofs.simulator.Simulator.run.Goals as goal

pub loop-event-preserved : goal.loop-event-preserved
loop-event-preserved g c =
    let pushed : c.push.new.self.items ≡ c.loop-event.replies.items ++ c.step-reply.result ∷ [] =
    rw c.unwrap.ensures at c.push.ensures.items in
    record {
      told = λ rest end later. told_more _ end _ _ _ c.step-reply.result rest pushed
          (c.loop-event.invariant.told (c.step-reply.result ∷ rest) end
          (step_before c.loop-event.self c.step-reply.new.self end c.args.events.now c.loop-event.event-index
          c.event-item.result c.step-reply.result rest c.loop-event-test.true c.event-item.is
          c.step-reply.ensures later));
      room = omega (arith, c.push.ensures.capacity);
      len = rw c.unwrap.ensures at c.push.ensures.len ∙ ap (λ n. n + 1) c.loop-event.invariant.len;
    }

pub returns : goal.returns
returns g c = told_all c.args.self.now c.loop-event.self c.args.events.now c.args.events.now c.loop-event.replies.items
    c.loop-event.event-index (omega arith) c.loop-event.invariant.told
