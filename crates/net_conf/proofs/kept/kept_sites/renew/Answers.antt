use Rattle.std.proofs.Common.{◌∙◌, cond, sym, ap}
use Rattle.std.specs.Map.{lookup}
use Rattle.std.specs.BTreeMap.{is_at}
use Rattle.net_prefix.specs.Address.{addr_cmp}
use Rattle.net_conf.proofs.KeepsSites.{site_put, site_taken}
use Rattle.net_conf.proofs.kept.kept_sites.renew.Goals as goal

pub returns-in_ok-put-in-Some : goal.returns-in_ok-put-in-Some
returns-in_ok-put-in-Some c r =
    let old = lookup (is_at (addr_cmp r)) c.args.sites.now in
    ap (lookup (is_at (addr_cmp r))) c.in_ok-put-in-Some.ensures.ok
    ∙ site_put c.args.router r c.in-Some.shared c.args.sites.now
    ∙ ap (λ s. cond (is_at (addr_cmp c.args.router) r) s old) (sym c.in-Some.is)

pub returns-in_ok-take_out-in-None : goal.returns-in_ok-take_out-in-None
returns-in_ok-take_out-in-None c r =
    let old = lookup (is_at (addr_cmp r)) c.args.sites.now in
    ap (lookup (is_at (addr_cmp r))) c.in_ok-take_out-in-None.ensures.ok
    ∙ site_taken c.args.router r c.args.sites.now c.order.ensures
    ∙ ap (λ s. cond (is_at (addr_cmp c.args.router) r) s old) (sym c.in-None.is)
