use Rattle.std.proofs.Common.{◌≡◌, ◌++◌, take, filter}
use Rattle.net_conf.specs.Kept.{is_above}
use Rattle.net_conf.proofs.kept.site_from.with_copies_above.Given as goal

-- the first, and those above among the sessions so far
abbrev pub invariant-loop-session : goal.invariant-loop-session
invariant-loop-session l = l.all.items ≡ l.fn.first.items ++ filter (is_above l.peer) (take l.session-index l.sessions)
