use Rattle.std.proofs.Common.{◌≡◌, Some, unwrap_or, ap, sym, ◌∙◌}
use Rattle.session_queue.specs.Telling.{prefix_of}
use Rattle.net_conf.specs.RouterSites.{router_site}
use Rattle.net_conf.proofs.RouterLaws.{site_of_router, site_sessions_in_order}
use Rattle.cell_engine.specs.RouterTables.{value_at}
use Rattle.cell_engine.specs.Cells.{decided}
use Rattle.cell_engine.specs.State.{cell_at}
use Rattle.cell_engine.proofs.Decided.{cell_decided}
use Rattle.cell_engine.proofs.Growth.{shown_or}
use Rattle.cell_engine.proofs.state.State.worked.Goals as goal

pub deliver-outcome-requires-clause-decided : goal.deliver-outcome-requires-clause-decided
deliver-outcome-requires-clause-decided g c =
    let e = c.args.self.now in
    let r = c.args.direction.to in
    let p = prefix_of c.args.message.now in
    let at : router_site e.conf r ≡ Some c.in-Some.site.now = sym c.in-Some.ensures in
    let there : c.unwrap_or-cell.result.now ≡ cell_at r p e.tables =
    ap (λ b. b.now) c.unwrap_or-cell.ensures
    ∙ shown_or c.cell-found.result _
    ∙ (λ i. unwrap_or ((c.cell-found.ensures ∙ ap (λ q. value_at r q e.tables) c.prefix.ensures) i)
    (c.new-nothing.ensures i)) in
    there ∙ cell_decided e c.facts.ensures.sound r p ∙ (λ i. decided (at i) p (sym there i).received)

pub deliver-outcome-requires-clause-peers : goal.deliver-outcome-requires-clause-peers
deliver-outcome-requires-clause-peers g c =
    let e = c.args.self.now in
    let r = c.args.direction.to in
    let site = c.in-Some.site.now in
    site_sessions_in_order e.conf r site c.facts.ensures.configured
    (site_of_router e.conf r site (sym c.in-Some.ensures))
