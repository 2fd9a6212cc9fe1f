-- Where a router stands, it has a site, with its costs.
use Rattle.std.proofs.Common.{◌≡◌, true, false, cond, Option, Some, None, option_map, is_some, sym, ap, ◌∙◌}
use Rattle.std.proofs.lemmas.Bool.{true≢false}
use Rattle.std.proofs.lemmas.Option.{none-some, same_Some}
use Rattle.net_prefix.specs.declared.addr.Addr.{Addr}
use Rattle.net_conf.specs.declared.tables.Node.{Node}
use Rattle.net_conf.specs.declared.site.SiteConf.{SiteConf}
use Rattle.net_conf.specs.Configuration.{Configuration, node_at, has_node, is_virtual}
use Rattle.net_conf.specs.Costs.{costs_of}
use Rattle.net_conf.specs.RouterSites.{router_site}
use Rattle.net_conf.specs.Sites.{site_at, site_of}
use Rattle.net_conf.proofs.RouterLaws.{site_of_router}

module _ (c : Configuration) (r : Addr) where
  without_site : (n : Option Node) → is_some n ≡ true → option_map (site_at c r) n ≡ None → ⊥
  without_site None there is = true≢false (sym there)
  without_site (Some n) there is = none-some _ (sym is)

  -- a router has a site
  pub has_site : has_node c r ≡ true → is_virtual c r ≡ false → router_site c r ≡ None → ⊥
  unfolding site_of
  has_site there router none = without_site (node_at c r) there (ap (λ b. cond b None (site_of c r)) (sym router)
      ∙ none)

  costs_at : (n : Option Node) (site : SiteConf) → option_map (site_at c r) n ≡ Some site → site.costs ≡ costs_of c r
  costs_at None site is = absurd (none-some site is)
  costs_at (Some n) site is = sym (ap (λ (s : SiteConf). s.costs) (same_Some _ _ is))

  -- and its costs are the router's
  pub costs_of_site : (site : SiteConf) → router_site c r ≡ Some site → site.costs ≡ costs_of c r
  unfolding site_of
  costs_of_site site is = costs_at (node_at c r) site (site_of_router c r site is)
