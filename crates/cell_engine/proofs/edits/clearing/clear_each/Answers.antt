use Rattle.std.proofs.Common.{[], ◌∙◌, get_or, if◌then◌else◌, ap}
use Rattle.net_conf.specs.declared.tables.Ends.{Ends}
use Rattle.cell_engine.specs.Edits.{is_of}
use Rattle.cell_engine.proofs.Cleared.{one_more_cleared}
use Rattle.cell_engine.proofs.edits.clearing.clear_each.Goals as goal

pub loop-ends-preserved : goal.loop-ends-preserved
loop-ends-preserved c =
    let i = c.loop-ends.ends-index in
    let d : Ends = record { low = record { 0 = 0 }; high = record { 0 = 0 } } in
    let x : Ends = get_or c.args.sessions.now i d in
    record {
      queue = λ f t. c.clear_both.ensures.queue f t
          ∙ ap (λ q. if is_of f t x then [] else q) (c.loop-ends.invariant.queue f t)
          ∙ one_more_cleared f t c.args.sessions.now i d c.loop-ends-test.true c.args.queues.now;
      spare = λ f t. c.clear_both.ensures.spare f t ∙ c.loop-ends.invariant.spare f t;
      admitted = c.clear_both.ensures.admitted ∙ c.loop-ends.invariant.admitted;
    }
