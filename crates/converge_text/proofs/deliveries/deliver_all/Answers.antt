use Rattle.std.proofs.Common.{ℕ, ◌<◌, Result, Ok, sym, subst, ◌∙◌}
use Rattle.watched.specs.declared.sink.WriterFailed.{WriterFailed}
use Rattle.convergence.specs.declared.delivery.Tally.{Tally}
use Rattle.converge_text.specs.Requests.{most_of}
use Rattle.converge_text.specs.Echoes.{AreEchoed}
use Rattle.converge_text.proofs.Echoing.{nothing_echoed, one_echoed}
use Rattle.converge_text.proofs.deliveries.deliver_all.Goals as goal

pub deliveries-init : goal.deliveries-init
deliveries-init g c =
    let most = most_of c.args.asked.most in
    let begun : Result (Unit {0}) WriterFailed = Ok (tt {0}) in
    record {
      most = c.new-run.ensures.most ∙ c.from.ensures ∙ c.unwrap_or-most.ensures;
      so_far = subst (λ (tally : Tally). AreEchoed c.args.machine.now most c.args.asked.echo c.args.output.now tally
          begun c.args.output.now c.args.machine.now) (sym c.new-run.ensures.tally)
          (nothing_echoed c.args.machine.now most c.args.asked.echo c.args.output.now (tt {0}));
    }

pub deliveries-preserved : goal.deliveries-preserved
deliveries-preserved g c =
    let took = c.in-Took.ensures.advance in
    let before = c.deliveries.invariant in
    record {
      most = c.advance.ensures.most ∙ before.most;
      so_far = one_echoed c.args.machine.now (most_of c.args.asked.most) c.args.asked.echo c.args.output.now
          c.deliveries.run.tally c.deliveries.written c.deliveries.output c.deliveries.machine c.in-Took.delivery
          c.advance.new.self.tally c.write_echo-written.result c.write_echo-written.new.output c.advance.new.machine
          took.0 (subst (λ (n : ℕ). c.deliveries.run.tally.made < n) before.most took.1) took.2
          c.write_echo-written.ensures before.so_far;
    }
