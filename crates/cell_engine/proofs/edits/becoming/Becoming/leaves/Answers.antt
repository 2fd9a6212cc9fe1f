use Rattle.std.proofs.Common.{sym, ◌∙◌}
use Rattle.net_conf.specs.RouterSites.{router_site}
use Rattle.cell_engine.specs.Moves.{is_moved_by}
use Rattle.cell_engine.proofs.Remade.{pair_some}
use Rattle.cell_engine.proofs.Skipped.{leaves_by, none_of_hops}
use Rattle.cell_engine.proofs.edits.becoming.Becoming.leaves.Goals as goal

pub returns-then-moves_costs_alone : goal.returns-then-moves_costs_alone
returns-then-moves_costs_alone c =
    let b = c.args.self.now in
    let sites = c.in-Some.change in
    let both = pair_some (router_site b.before b.address) (router_site b.after b.address) sites (sym c.in-Some.is
    ∙ c.site_change-change.ensures) in
    leaves_by c.moves_one_of.result _ (λ stays p h have.
    (λ i. is_moved_by (both.0 i) (both.1 i) b.after b.address p h)
    ∙ none_of_hops sites c.if-moves_costs_alone.ensures c.args.hops (sym c.moves_one_of.ensures ∙ stays) p h have)
