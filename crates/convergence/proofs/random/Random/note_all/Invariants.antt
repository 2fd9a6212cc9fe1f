use Rattle.std.proofs.Common.{◌-◌}
use Rattle.convergence.specs.Places.{place, Fits}
use Rattle.convergence.proofs.random.Random.note_all.Given as goal

abbrev pub invariant-directions : goal.invariant-directions
invariant-directions g l = Fits l.past

abbrev pub decreases-directions : goal.decreases-directions
decreases-directions g l = 18446744073709551617 - place l.past
