use Rattle.std.proofs.Common.{◌≡◌, ◌++◌, [], ◌∷◌, ◌+◌, ◌∙◌, ap, arith}
use Rattle.cell_engine.specs.State.{network}
use Rattle.sim_core.proofs.Runs.{step_before, told_more, told_all, run_of}
use Rattle.sim_core.proofs.sim.Sim.run.Goals as goal

pub loop-event-preserved : goal.loop-event-preserved
loop-event-preserved g c =
    let before = c.loop-event.self in
    let after = c.step-reply.new.self in
    let reply = c.step-reply.result in
    let pushed : c.push.new.self.items ≡ c.loop-event.replies.items ++ reply ∷ [] =
    rw c.unwrap.ensures at c.push.ensures.items in
    record {
      told = λ rest end last later. told_more _ end _ last _ _ _ reply rest pushed
          (c.loop-event.invariant.told (reply ∷ rest) end last
          (step_before (network before.engine) (network after.engine) end before.decided after.decided last
          c.args.events.now c.loop-event.event-index c.event-item.result reply rest c.loop-event-test.true
          c.event-item.is c.step-reply.ensures.step c.step-reply.ensures.decided later));
      room = omega (arith, c.push.ensures.capacity);
      len = rw c.unwrap.ensures at c.push.ensures.len ∙ ap (λ n. n + 1) c.loop-event.invariant.len;
    }

pub returns-clause-counted : goal.returns-clause-counted
returns-clause-counted g c =
    let start = c.args.self.now in
    let end = c.loop-event.self in
    told_all (network start.engine) (network end.engine) start.decided end.decided c.args.events.now c.args.events.now
    c.loop-event.replies.items c.loop-event.event-index (omega arith) c.loop-event.invariant.told

pub returns-clause-run : goal.returns-clause-run
returns-clause-run g c =
    let start = c.args.self.now in
    let end = c.loop-event.self in
    run_of (network start.engine) (network end.engine) start.decided end.decided c.args.events.now
    c.loop-event.replies.items (returns-clause-counted g c)
