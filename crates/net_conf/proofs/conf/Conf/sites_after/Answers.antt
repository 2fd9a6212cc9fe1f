use Rattle.std.proofs.Common.{◌≡◌, ◌∙◌, cond, ap}
use Rattle.std.specs.Map.{lookup}
use Rattle.std.specs.BTreeMap.{is_at}
use Rattle.net_prefix.specs.Address.{addr_cmp}
use Rattle.net_conf.specs.Concerned.{is_among}
use Rattle.net_conf.specs.RouterSites.{site_kept}
use Rattle.net_conf.proofs.KeepsSites.{same_kept, either_kept}
use Rattle.net_conf.proofs.conf.Conf.sites_after.Goals as goal

pub returns : goal.returns
returns c r =
    let s = c.args.self.now in
    let d = c.args.after.now in
    let keys = c.args.concerned.now.keys in
    c.in_ok-renewed.ensures r
    ∙ ap (λ ks. cond (is_among r ks) (site_kept d r) (site_kept s r))
    (c.deref.ensures.value ∙ c.in_ok-routers.ensures)
    ∙ either_kept (site_kept d r) (site_kept s r) (is_among r keys)
    (λ out. same_kept s d r (c.requires.concerned r out) (c.requires.ends r out))
