use Rattle.std.proofs.Common.{◌≡◌, map, take}
use Rattle.net_conf.specs.Sites.{session_of}
use Rattle.net_conf.proofs.kept.conf_sessions.ConfSessions.sessions_with.Given as goal

-- the sessions with the peers so far
abbrev pub invariant-loop-peer : goal.invariant-loop-peer
invariant-loop-peer l = l.sessions.items ≡ map (session_of l.self l.router) (take l.peer-index l.peers)
