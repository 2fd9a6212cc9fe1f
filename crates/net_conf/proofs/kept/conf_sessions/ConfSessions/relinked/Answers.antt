use Rattle.net_conf.proofs.KeptTrees.{node_of_end}
use Rattle.net_conf.proofs.kept.conf_sessions.ConfSessions.relinked.Goals as goal

pub costs-requires : goal.costs-requires
costs-requires c = node_of_end c.args.self.now c.args.router c.facts.ensures.configured.session_ends c.requires.ends
