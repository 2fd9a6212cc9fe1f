use Rattle.std.proofs.Common.{sym, subst}
use Rattle.convergence.specs.Waiting.{IsReached}
use Rattle.convergence.proofs.Reaching.{reached_nothing}
use Rattle.convergence.proofs.reached.Reached.new.Goals as goal

pub invariant_of-result : goal.invariant_of-result
invariant_of-result g c = subst IsReached (sym c.requires) reached_nothing
