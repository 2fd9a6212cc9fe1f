use Rattle.std.proofs.Common.{◌≡◌, map, take}
use Rattle.net_conf.specs.Kept.{settled}
use Rattle.net_conf.proofs.kept.conf_sessions.ConfSessions.sessions_settled.Given as goal

-- the sessions so far
abbrev pub invariant-loop-session : goal.invariant-loop-session
invariant-loop-session l = l.settled.items ≡ map (settled l.self l.router l.peer) (take l.session-index l.sessions)
