use Rattle.std.proofs.Common.{◌≡◌, ◌++◌, filter, drop, is_some, IfSome}
use Rattle.net_conf.specs.RouterSites.{router_site}
use Rattle.cell_engine.proofs.edits.refreshed.routers_alone.Given as goal

-- those of the cells so far are there
abbrev pub invariant-loop-cell : goal.invariant-loop-cell
invariant-loop-cell l = record {
  right : IfSome l.last (λ x. x.1 ≡ is_some (router_site l.conf x.0));
  cells : l.some.items ++ filter (λ c. is_some (router_site l.conf c.0)) (drop l.cell-index l.cells)
      ≡ filter (λ c. is_some (router_site l.conf c.0)) l.cells;
}
