use Rattle.std.proofs.Common.{◌≡◌, map}
use Rattle.path_attr.specs.declared.attr.Attr.{Attr}
use Rattle.reference_machine.specs.declared.rows.RouteKey.{RouteKey}
use Rattle.reference_machine.specs.Network.{routes_from}
use Rattle.plain_simulator.proofs.state.State.received_from.Given as goal

-- the routes of the peer so far
abbrev pub invariant-loop-key : goal.invariant-loop-key
invariant-loop-key l = l.routes.items ≡ map (λ e. (e.0.prefix, e.1))
    (routes_from l.router l.peer (map {B = RouteKey × Attr} (λ e. (e.0.now, e.1.now)) l.yielded))
