use Rattle.std.proofs.Common.{IfOk, List, ◌≡◌, filter, is_some, ◌∙◌, ap, subst}
use Rattle.net_prefix.specs.declared.addr.Addr.{Addr}
use Rattle.net_prefix.specs.declared.prefix.Prefix.{Prefix}
use Rattle.net_conf.specs.RouterSites.{router_site}
use Rattle.cell_engine.proofs.Filtered.{filter_mapped}
use Rattle.cell_engine.proofs.edits.refreshed.refreshed_cells.Goals as goal

pub returns : goal.returns
returns g c =
    let routers : List (Addr × Prefix) →
    List (Addr × Prefix) = filter (λ k. is_some (router_site c.args.conf.now k.0)) in
    let mapped = filter_mapped (λ x. (x.router, x.prefix))
    (λ (k : Addr × Prefix). is_some (router_site c.args.conf.now k.0)) c.args.edits.now in
    subst (λ (cells : List (Addr × Prefix)). IfOk c.routers_alone.result (λ some. some.items ≡ cells))
    (ap routers (c.deref.ensures.value ∙ c.in_ok-cells.ensures) ∙ mapped) c.routers_alone.ensures
