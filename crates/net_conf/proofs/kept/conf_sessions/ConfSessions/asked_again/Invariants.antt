use Rattle.std.proofs.Common.{◌≡◌, map, take}
use Rattle.net_conf.specs.Kept.{asked}
use Rattle.net_conf.proofs.kept.conf_sessions.ConfSessions.asked_again.Given as goal

-- the sessions so far
abbrev pub invariant-loop-session : goal.invariant-loop-session
invariant-loop-session l = l.asked.items ≡ map (asked l.self l.router) (take l.session-index l.sessions)
