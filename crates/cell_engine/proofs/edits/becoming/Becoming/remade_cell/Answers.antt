use Rattle.std.proofs.Common.{◌≡◌, Option, Some, None, ap, sym, subst, ◌∙◌}
use Rattle.net_conf.specs.Configured.{IsConfigured}
use Rattle.net_conf.specs.RouterSites.{router_site}
use Rattle.net_conf.specs.declared.site.SiteConf.{SiteConf}
use Rattle.net_conf.proofs.RouterLaws.{site_of_router, site_sessions_in_order}
use Rattle.cell_engine.specs.Cells.{refreshed}
use Rattle.cell_engine.proofs.Seen.{when_ok}
use Rattle.cell_engine.specs.Becomings.{Becoming, pair_of}
use Rattle.cell_engine.proofs.Remade.{remade, remade_by_router, pair_some, pair_none}
use Rattle.cell_engine.proofs.edits.becoming.Becoming.remade_cell.Goals as goal

abbrev old : Becoming → Option SiteConf
old b = router_site b.before b.address

abbrev new : Becoming → Option SiteConf
new b = router_site b.after b.address

pub refresh_compared-requires : goal.refresh_compared-requires
refresh_compared-requires g c =
    let b : Becoming = c.args.self.now in
    let sites = c.in-Some-default.change in
    let both = pair_some (old b) (new b) sites (sym c.in-Some-default.is-0 ∙ c.site_change-change.ensures) in
    let configured = subst IsConfigured (ap (λ (v : Becoming). v.after) c.self.view_is) c.facts.ensures.configured in
    record {
      peers = site_sessions_in_order b.after b.address sites.new configured
          (site_of_router b.after b.address sites.new both.1);
    }

pub returns-in-Some-default : goal.returns-in-Some-default
returns-in-Some-default g c =
    let b : Becoming = c.args.self.now in
    let p = c.args.prefix in
    let h = c.args.cell.now in
    let sites = c.in-Some-default.change in
    let both = pair_some (old b) (new b) sites (sym c.in-Some-default.is-0 ∙ c.site_change-change.ensures) in
    when_ok c.refresh_compared.result _ _ (λ made is.
    is
    ∙ remade_by_router b.after (Some sites.old) sites.new b.address p h both.1
    ∙ (λ i. remade b.after (sym both.0 i) (sym both.1 i) b.address p h)
    ) c.refresh_compared.ensures

pub returns-in-None-Some : goal.returns-in-None-Some
returns-in-None-Some g c =
    let b : Becoming = c.args.self.now in
    let p = c.args.prefix in
    let h = c.args.cell.now in
    let site : SiteConf = c.in-None-Some.site in
    let there : new b ≡ Some site = sym (ap new c.self.view_is) ∙ sym c.self.invariant.1 ∙ c.in-None-Some.is-1 in
    let before : old b ≡ None = pair_none (old b) site (sym c.in-None-Some.is-0 ∙ c.site_change-change.ensures
    ∙ ap (pair_of (old b)) there) in
    when_ok c.refresh.result _ _ (λ made is.
    is
    ∙ (λ i. refreshed (c.get.ensures i) (c.get-in-None-Some.ensures i) p h)
    ∙ remade_by_router b.after None site b.address p h there
    ∙ (λ i. remade b.after (sym before i) (sym there i) b.address p h)
    ) c.refresh.ensures
