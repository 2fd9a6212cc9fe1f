use Rattle.std.proofs.Common.{◌≡◌, drop}
use Rattle.cell_engine.specs.Hops.{with_hops}
use Rattle.cell_engine.proofs.hop_table.hops.Hops.with.Given as goal

-- all routes tell what those that are left do, beside what is known
abbrev pub invariant-loop-route : goal.invariant-loop-route
invariant-loop-route l = with_hops l.hops (drop l.route-index l.routes) ≡ with_hops l.fn.self l.routes
