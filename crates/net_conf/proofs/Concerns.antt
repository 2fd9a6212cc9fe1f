-- What a router sees of two configurations that are alike to it, but for its costs.
use Rattle.std.proofs.Common.{◌≡◌, ℕ, Bool, true, false, not, ◌==◌, ◌&&◌, List, Option, Some, None, option_map, is_some, if◌then◌else◌, refl, sym, ap, ◌∙◌}
use Rattle.std.specs.Map.{lookup}
use Rattle.std.specs.BTreeMap.{is_at}
use Rattle.std.specs.Option.{unwrap_or}
use Rattle.std.proofs.Math.Bool.{and_comm}
use Rattle.std.proofs.lemmas.Cmp.{nat_eq_equiv}
use Rattle.net_prefix.specs.declared.addr.Addr.{Addr}
use Rattle.net_prefix.specs.Prefix.{Prefix}
use Rattle.igp_cost.specs.Trees.{Reached}
use Rattle.path_attr.specs.Number.{same_number}
use Rattle.net_conf.specs.declared.site.SiteConf.{SiteConf}
use Rattle.net_conf.specs.declared.site.SiteSession.{SiteSession}
use Rattle.net_conf.specs.declared.tables.Node.{Node}
use Rattle.net_conf.specs.declared.edit.Edit.{Edit}
use Rattle.net_conf.specs.declared.edit.Edit.TheVariants.{Client, OwnNext, Cluster, MedAlways, Rule as AddRule, Clear, Origin, NoOrigin}
use Rattle.net_conf.specs.declared.tables.PolicySide.TheVariants.{Import, Export}
use Rattle.net_conf.specs.Configuration.{Configuration, node_at, is_kind_virtual, is_external, as_of, has_link_up, session_between, ends_cmp, is_reflector, cluster_id, compares_all_meds, origins_of}
use Rattle.net_conf.specs.Costs.{costs_of, cost, session_up, is_up, is_connected}
use Rattle.net_conf.specs.Sites.{site_of, sessions_of}
use Rattle.net_conf.specs.RouterSites.{router_site}
use Rattle.net_conf.specs.Edits.{edited}
use Rattle.net_conf.specs.Scopes.{scope, router_in}
use Rattle.net_conf.specs.Concerned.{StaysAt}
use Rattle.net_conf.proofs.KeptTrees.{ends_turned}
use Rattle.net_conf.proofs.OthersStay.{sites_of_others, sessions_stay}
use Rattle.std.proofs.lemmas.Option.{none-some}

-- the site of the parts
abbrev site_of_parts : Addr → Addr → Bool → Bool → List Prefix → List SiteSession → Reached → Node → SiteConf
site_of_parts r cluster reflector med_always originated sessions costs n = record {
  me = r;
  asn = n.asn;
  cluster = cluster;
  reflector = reflector;
  med_always = med_always;
  origins = originated;
  sessions = sessions;
  costs = costs;
}

site_with : Addr → Option Node → Addr → Bool → Bool → List Prefix → List SiteSession → Reached → Option SiteConf
site_with r n cluster reflector med_always originated sessions costs =
    if unwrap_or (option_map (λ x. is_kind_virtual x.kind) n) false then None
    else option_map (site_of_parts r cluster reflector med_always originated sessions costs) n

abbrev site_in : Configuration → Addr → Reached → Option SiteConf
site_in c r costs = site_with r (node_at c r) (cluster_id c r) (is_reflector c r) (compares_all_meds c r)
    (origins_of c r) (sessions_of c r) costs

is_site_in : (c : Configuration) (r : Addr) → router_site c r ≡ site_in c r (costs_of c r)
unfolding site_of site_with
is_site_in c r = refl

-- other costs
with_costs : (r : Addr) (n : Option Node) (cluster : Addr) (reflector med_always : Bool) (originated : List Prefix)
    (sessions : List SiteSession) (old new : Reached) →
    site_with r n cluster reflector med_always originated sessions new
    ≡ option_map (λ (s : SiteConf). record s { costs = new })
    (site_with r n cluster reflector med_always originated sessions old)
unfolding site_with
with_costs r None cluster reflector med_always originated sessions old new = refl
with_costs r (Some n) cluster reflector med_always originated sessions old new = by (is_kind_virtual n.kind)
  where
    site : Reached → SiteConf
    site costs = site_of_parts r cluster reflector med_always originated sessions costs n

    by : (virtual : Bool) → (if virtual then None else Some (site new))
        ≡ option_map (λ (s : SiteConf). record s { costs = new }) (if virtual then None else Some (site old))
    by true = refl
    by false = refl

-- all parts but the costs are alike
pub record AreAlike (c d : Configuration) (r : Addr) : Type 0 where
  pub node : node_at d r ≡ node_at c r
  pub cluster : cluster_id d r ≡ cluster_id c r
  pub reflector : is_reflector d r ≡ is_reflector c r
  pub med_always : compares_all_meds d r ≡ compares_all_meds c r
  pub origins : origins_of d r ≡ origins_of c r
  pub sessions : sessions_of d r ≡ sessions_of c r

pub facts_alike : (c d : Configuration) (r : Addr) → AreAlike c d r →
    router_site d r ≡ option_map (λ (s : SiteConf). record s { costs = costs_of d r }) (router_site c r)
facts_alike c d r alike =
    is_site_in d r
    ∙ ap (λ x. site_with r x (cluster_id d r) (is_reflector d r) (compares_all_meds d r) (origins_of d r)
    (sessions_of d r) (costs_of d r)) alike.node
    ∙ ap (λ x. site_with r (node_at c r) x (is_reflector d r) (compares_all_meds d r) (origins_of d r) (sessions_of d r)
    (costs_of d r)) alike.cluster
    ∙ ap (λ x. site_with r (node_at c r) (cluster_id c r) x (compares_all_meds d r) (origins_of d r) (sessions_of d r)
    (costs_of d r)) alike.reflector
    ∙ ap (λ x. site_with r (node_at c r) (cluster_id c r) (is_reflector c r) x (origins_of d r) (sessions_of d r)
    (costs_of d r)) alike.med_always
    ∙ ap (λ x. site_with r (node_at c r) (cluster_id c r) (is_reflector c r) (compares_all_meds c r) x (sessions_of d r)
    (costs_of d r)) alike.origins
    ∙ ap (λ x. site_with r (node_at c r) (cluster_id c r) (is_reflector c r) (compares_all_meds c r) (origins_of c r) x
    (costs_of d r)) alike.sessions
    ∙ with_costs r (node_at c r) (cluster_id c r) (is_reflector c r) (compares_all_meds c r) (origins_of c r)
    (sessions_of c r) (costs_of c r) (costs_of d r)
    ∙ ap (option_map (λ (s : SiteConf). record s { costs = costs_of d r })) (sym (is_site_in c r))

-- a site with the costs that it has
pub own_costs : (c : Configuration) (r : Addr) →
    option_map (λ (s : SiteConf). record s { costs = costs_of c r }) (router_site c r) ≡ router_site c r
own_costs c r = sym (facts_alike c c r (record {
  node = refl;
  cluster = refl;
  reflector = refl;
  med_always = refl;
  origins = refl;
  sessions = refl;
}))

-- a router keeps all where nothing changes
pub stays_itself : (c : Configuration) (r : Addr) → StaysAt c c r
stays_itself c r = record { facts = sym (own_costs c r); costs = λ ends. refl; up = λ u. refl }

-- SETTINGS

settings_costs : (c : Configuration) (e : Edit) (a r : Addr) → router_in (scope e) ≡ Some a →
    costs_of (edited c e) r ≡ costs_of c r
settings_costs c (Client x y on) a r is = refl
settings_costs c (OwnNext x y on) a r is = refl
settings_costs c (Cluster x id) a r is = refl
settings_costs c (MedAlways x on) a r is = refl
settings_costs c (AddRule x y Import rule) a r is = refl
settings_costs c (AddRule x y Export rule) a r is = refl
settings_costs c (Clear x y Import) a r is = refl
settings_costs c (Clear x y Export) a r is = refl
settings_costs c (Origin x p) a r is = refl
settings_costs c (NoOrigin x p) a r is = refl
settings_costs c _ a r is = absurd (none-some a is)

-- an edit of one router's settings concerns it alone
pub settings_concern : (c : Configuration) (e : Edit) (a r : Addr) → router_in (scope e) ≡ Some a →
    (r.0 == a.0) ≡ false → StaysAt c (edited c e) r
settings_concern c e a r one apart =
    let same = settings_costs c e a r one in
    record {
      facts = sites_of_others c e a r one apart ∙ sym (own_costs c r)
          ∙ ap (λ x. option_map (λ (s : SiteConf). record s { costs = x }) (router_site c r)) (sym same);
      costs = λ ends. same;
      up = λ u. sessions_stay c e a u r one;
    }

-- A SESSION IN THE OTHER ORDER

number_turned : (m n : Option ℕ) → same_number m n ≡ same_number n m
number_turned None None = refl
number_turned None (Some n) = refl
number_turned (Some m) None = refl
number_turned (Some m) (Some n) = nat_eq_equiv.symm m n

connected_turned : (c : Configuration) (a b : Addr) → is_connected c a b ≡ is_connected c b a
connected_turned c a b =
    ap (λ x. if not x then has_link_up c a b else (is_some (cost c a b) && is_some (cost c b a)))
    (number_turned (as_of c a) (as_of c b))
    ∙ ap (λ x. if is_external c b a then unwrap_or (option_map (λ l. l.up) x) false
    else (is_some (cost c a b) && is_some (cost c b a)))
    (ap (λ e. lookup (is_at (ends_cmp e)) c.links) (ends_turned a b))
    ∙ ap (λ x. if is_external c b a then has_link_up c b a else x)
    (and_comm (is_some (cost c a b)) (is_some (cost c b a)))

pub up_turned : (c : Configuration) (a b : Addr) → is_up c a b ≡ is_up c b a
unfolding session_up
up_turned c a b =
    ap (λ o. unwrap_or (option_map (λ enabled. enabled && is_connected c a b) o) false)
    (ap (λ e. lookup (is_at (ends_cmp e)) c.sessions) (ends_turned a b))
    ∙ ap (λ x. unwrap_or (option_map (λ enabled. enabled && x) (session_between c b a)) false) (connected_turned c a b)

-- without a session, none is up
pub down_without : (c : Configuration) (a b : Addr) → session_between c a b ≡ None → is_up c a b ≡ false
unfolding session_up
down_without c a b none = ap (λ o. unwrap_or (option_map (λ enabled. enabled && is_connected c a b) o) false) none
