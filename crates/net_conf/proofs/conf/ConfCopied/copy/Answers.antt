use Rattle.std.proofs.Common.{◌≡◌, ◌∙◌, sym, ap}
use Rattle.std.specs.Map.{lookup}
use Rattle.std.specs.BTreeMap.{is_at}
use Rattle.net_prefix.specs.Address.{addr_cmp}
use Rattle.net_conf.specs.RouterSites.{site_kept}
use Rattle.net_conf.proofs.conf.ConfCopied.copy.Goals as goal

pub invariant_of-result : goal.invariant_of-result
invariant_of-result c r =
    let same : c.in_ok-sites.sites ≡ c.self.inside.sites = c.in_ok-sites.ensures.ok in
    ap (lookup (is_at (addr_cmp r))) same ∙ c.self.invariant r ∙ ap (λ x. site_kept x r) (sym c.in_ok-copy.ensures)
