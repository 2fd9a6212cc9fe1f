use Rattle.net_conf.proofs.Peers.{peers_in_order, peer_of_session}
use Rattle.net_conf.proofs.laws.peers_are_those_of_sessions.Goals as goal

pub returns-clause-in_order : goal.returns-clause-in_order
returns-clause-in_order c = peers_in_order

pub returns-clause-sessions : goal.returns-clause-sessions
returns-clause-sessions c = λ k r t holds. peer_of_session k r holds t
