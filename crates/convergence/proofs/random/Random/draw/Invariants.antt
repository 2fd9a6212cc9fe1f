use Rattle.std.proofs.Common.{length}
use Rattle.convergence.proofs.random.Random.draw.Given as goal

abbrev pub decreases-loop-self : goal.decreases-loop-self
decreases-loop-self g l = length l.self.directions.keys
