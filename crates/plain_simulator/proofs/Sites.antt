-- What a router's site says of its choices and its costs.
use Rattle.std.proofs.Common.{◌≡◌, Option, Some, None, option_map, option_and_then, refl, sym, ap, ◌∙◌}
use Rattle.std.proofs.lemmas.Option.{none-some, same_Some}
use Rattle.net_prefix.specs.declared.addr.Addr.{Addr}
use Rattle.net_prefix.specs.Prefix.{Prefix}
use Rattle.net_conf.specs.declared.site.SiteConf.{SiteConf}
use Rattle.net_conf.specs.declared.tables.Node.{Node}
use Rattle.igp_cost.specs.Trees.{Reached}
use Rattle.net_conf.specs.Configuration.{Configuration, node_at, cluster_id, is_reflector, compares_all_meds, origins_of}
use Rattle.net_conf.specs.Costs.{costs_of}
use Rattle.net_conf.specs.Sites.{site_of, sessions_of}
use Rattle.route_select.specs.Selection.{best_of}
use Rattle.reference_machine.specs.Network.{Network}
use Rattle.reference_machine.specs.Decision.{best, standings}

-- where there is no site, nothing is chosen
pub none_chosen : (s : Network) (r : Addr) (p : Prefix) → site_of s.conf r ≡ None → best s r p ≡ None
unfolding best
none_chosen s r p is = ap (option_and_then (λ site. best_of (standings site p s.received))) is

-- where there is one, what is chosen there
pub chosen_at : (s : Network) (r : Addr) (p : Prefix) (site : SiteConf) → site_of s.conf r ≡ Some site →
    best s r p ≡ best_of (standings site p s.received)
unfolding best
chosen_at s r p site is = ap (option_and_then (λ here. best_of (standings here p s.received))) is

mapped_costs : (f : Node → SiteConf) (t : Reached) → ((n : Node) → (f n).costs ≡ t) →
    (n : Option Node) (site : SiteConf) → option_map f n ≡ Some site → site.costs ≡ t
mapped_costs f t all None site is = absurd (none-some site is)
mapped_costs f t all (Some n) site is = ap (λ here. here.costs) (sym (same_Some _ _ is)) ∙ all n

-- the costs of a site are those of its router
pub site_costs : (c : Configuration) (r : Addr) (site : SiteConf) → site_of c r ≡ Some site → site.costs ≡ costs_of c r
unfolding site_of
site_costs c r site is =
    let f : Node → SiteConf = λ n. record {
      me = r;
      asn = n.asn;
      cluster = cluster_id c r;
      reflector = is_reflector c r;
      med_always = compares_all_meds c r;
      origins = origins_of c r;
      sessions = sessions_of c r;
      costs = costs_of c r;
    } in
    mapped_costs f (costs_of c r) (λ n. refl) (node_at c r) site is
