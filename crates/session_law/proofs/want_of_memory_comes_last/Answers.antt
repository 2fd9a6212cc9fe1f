use Rattle.session_law.proofs.Refusals.{refusal_law, quiet_is_told}
use Rattle.session_law.proofs.want_of_memory_comes_last.Goals as goal

pub returns-clause-refused : goal.returns-clause-refused
returns-clause-refused c = refusal_law

pub returns-clause-quiet : goal.returns-clause-quiet
returns-clause-quiet c = quiet_is_told
