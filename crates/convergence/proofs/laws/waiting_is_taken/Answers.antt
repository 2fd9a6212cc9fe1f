use Rattle.convergence.proofs.Reaching.{waiting_law}
use Rattle.convergence.proofs.laws.waiting_is_taken.Goals as goal

pub returns : goal.returns
returns c = waiting_law
