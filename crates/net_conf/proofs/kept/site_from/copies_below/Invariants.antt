use Rattle.std.proofs.Common.{◌≡◌, take, filter}
use Rattle.net_conf.specs.Kept.{is_below}
use Rattle.net_conf.proofs.kept.site_from.copies_below.Given as goal

-- those below among the sessions so far
abbrev pub invariant-loop-session : goal.invariant-loop-session
invariant-loop-session l = l.below.items ≡ filter (is_below l.peer) (take l.session-index l.sessions)
