use Rattle.session_law.proofs.Chosen.{neighbour_law}
use Rattle.session_law.proofs.ReceivedPaths.{senders_path_law}
use Rattle.session_law.proofs.paths_begin_with_senders.Goals as goal

pub returns-clause-law : goal.returns-clause-law
returns-clause-law c = senders_path_law

pub returns-clause-neighbours : goal.returns-clause-neighbours
returns-clause-neighbours c = neighbour_law
