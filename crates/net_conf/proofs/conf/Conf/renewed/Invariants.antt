use Rattle.std.proofs.Common.{◌≡◌, cond, take}
use Rattle.std.specs.Map.{lookup}
use Rattle.std.specs.BTreeMap.{is_at}
use Rattle.net_prefix.specs.declared.addr.Addr.{Addr}
use Rattle.net_prefix.specs.Address.{addr_cmp}
use Rattle.net_conf.specs.Concerned.{is_among}
use Rattle.net_conf.specs.RouterSites.{site_kept}
use Rattle.net_conf.proofs.conf.Conf.renewed.Given as goal

-- the routers so far have their new sites
abbrev pub invariant-loop-router : goal.invariant-loop-router
invariant-loop-router l = (r : Addr) →
    lookup (is_at (addr_cmp r)) l.renewed ≡ cond (is_among r (take l.router-index l.routers)) (site_kept l.after r)
    (site_kept l.self r)
