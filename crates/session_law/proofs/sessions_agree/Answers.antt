use Rattle.session_law.proofs.Runs.{session_law, quiet_law}
use Rattle.session_law.proofs.sessions_agree.Goals as goal

pub returns-clause-law : goal.returns-clause-law
returns-clause-law c = session_law

pub returns-clause-quiet : goal.returns-clause-quiet
returns-clause-quiet c = quiet_law
