use Rattle.convergence.proofs.Reaching.{reached_step}
use Rattle.convergence.proofs.reached.Reached.take.Goals as goal

pub invariant_of-self : goal.invariant_of-self
invariant_of-self g c =
    reached_step (g.M.Machine.network c.self.inside.machine) (g.M.Machine.network c.step.new.self) c.args.event.now
    c.step.result c.self.invariant c.step.ensures
