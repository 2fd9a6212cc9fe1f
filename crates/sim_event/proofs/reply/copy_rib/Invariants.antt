use Rattle.std.proofs.Common.{◌≡◌, take}
use Rattle.sim_event.proofs.reply.copy_rib.Given as goal

-- the copies so far
abbrev pub invariant-loop-route : goal.invariant-loop-route
invariant-loop-route l = l.copies.items ≡ take l.route-index l.routes
