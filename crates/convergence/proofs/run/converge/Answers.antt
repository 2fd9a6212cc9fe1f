use Rattle.std.proofs.Common.{◌<◌, ◌∙◌, arith}
use Rattle.convergence.proofs.Counting.{delivered_more}
use Rattle.convergence.proofs.run.converge.Goals as goal

pub deliveries-preserved : goal.deliveries-preserved
deliveries-preserved g c =
    let took = c.in-Took.ensures.advance in
    let room : c.deliveries.run.tally.made < c.args.most = omega (arith, took.1) in
    record {
      most = c.advance.ensures.most ∙ c.deliveries.invariant.most;
      so_far = delivered_more c.args.machine.now c.args.most c.deliveries.run.tally c.deliveries.machine
          c.in-Took.field-0 c.advance.new.self.tally c.advance.new.machine took.0 room took.2
          c.deliveries.invariant.so_far;
    }
