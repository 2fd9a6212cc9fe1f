use Rattle.std.proofs.Common.{◌∙◌, cond, get_or, ap}
use Rattle.std.specs.Map.{lookup}
use Rattle.std.specs.BTreeMap.{is_at}
use Rattle.net_prefix.specs.declared.addr.Addr.{Addr}
use Rattle.net_prefix.specs.Address.{addr_cmp}
use Rattle.net_conf.specs.RouterSites.{site_kept}
use Rattle.net_conf.proofs.KeepsSites.{one_renewed}
use Rattle.net_conf.proofs.conf.Conf.renewed.Goals as goal

pub loop-router-preserved : goal.loop-router-preserved
loop-router-preserved c r =
    let d : Addr = record { 0 = 0 } in
    let i = c.loop-router.router-index in
    let x : Addr = get_or c.args.routers.now i d in
    let old = lookup (is_at (addr_cmp r)) c.loop-router.renewed in
    c.in_ok-renew.ensures r
    ∙ ap (λ s. cond (is_at (addr_cmp x) r) s old) c.in_ok-site.ensures
    ∙ ap (cond (is_at (addr_cmp x) r) (site_kept c.args.after.now x)) (c.loop-router.invariant r)
    ∙ one_renewed (site_kept c.args.after.now) (site_kept c.args.self.now r) r c.args.routers.now i d
    c.loop-router-test.true
