use Rattle.std.proofs.Common.{Some, None, refl}
use Rattle.team_run.proofs.engineer.call.Goals as goal

pub returns-in-Some : goal.returns-in-Some
returns-in-Some g c = (Some c.in-Some.refusal, c.in-Some.ensures, refl)

pub returns-in-None : goal.returns-in-None
returns-in-None g c = (None, c.in-None.ensures, refl)
