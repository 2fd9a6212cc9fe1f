use Rattle.reference_machine.proofs.Peers.{nothing_sent, nothing_told}
use Rattle.reference_machine.proofs.laws.virtual_peers_decide_nothing.Goals as goal

pub returns-clause-sent : goal.returns-clause-sent
returns-clause-sent c = nothing_sent

pub returns-clause-told : goal.returns-clause-told
returns-clause-told c = nothing_told
