-- An edit of one router's settings, or of what it originates, leaves the sites of all others, and all sessions up or
-- down.
use Rattle.std.proofs.Common.{◌≡◌, Bool, true, false, ◌==◌, List, [], ◌∷◌, ◌++◌, map, filter, Option, Some, None, option_map, is_some, if◌then◌else◌, refl, sym, ap, subst, ◌∙◌}
use Rattle.std.specs.Option.{unwrap_or}
use Rattle.std.specs.Cmp.{both_tied, unsigned_ties}
use Rattle.std.specs.List.{list_any}
use Rattle.std.specs.BTreeMap.{is_at, insert_entry}
use Rattle.std.proofs.lemmas.Bool.{and_left, and_right, not-false}
use Rattle.std.proofs.lemmas.Cmp.{nat_eq_equiv}
use Rattle.std.proofs.lemmas.Map.Lookups.{CmpEqualImpliesEq, exact_pairs}
use Rattle.std.proofs.lemmas.Option.{none-some, same_Some}
use Rattle.net_prefix.specs.declared.addr.Addr.{Addr}
use Rattle.net_prefix.specs.Address.{same_addr, addr_cmp}
use Rattle.net_prefix.specs.Prefix.{Prefix, same_prefix, prefix_cmp}
use Rattle.net_prefix.specs.Orders.{addr_exact, prefix_exact}
use Rattle.route_policy.specs.declared.rule.Rule.{Rule}
use Rattle.net_conf.specs.declared.tables.End.{End}
use Rattle.net_conf.specs.declared.tables.Origination.{Origination}
use Rattle.net_conf.specs.declared.tables.PolicySide.TheVariants.{Import, Export}
use Rattle.net_conf.specs.declared.edit.Edit.{Edit}
use Rattle.net_conf.specs.declared.edit.Edit.TheVariants.{Client, OwnNext, Cluster, MedAlways, Rule as AddRule, Clear, Origin, NoOrigin}
use Rattle.net_conf.specs.declared.edit.Scope.{Scope}
use Rattle.net_conf.specs.declared.edit.Scope.TheVariants.{Route}
use Rattle.net_conf.specs.declared.site.SiteConf.{SiteConf}
use Rattle.net_conf.specs.declared.site.SiteSession.{SiteSession}
use Rattle.net_conf.specs.Configuration.{Configuration, end_of, end_cmp, origination_cmp, node_at, has_node, is_virtual, as_of, is_external, is_client, is_reflector, cluster_id, compares_all_meds, puts_itself, rules_at, import_rules, export_rules, originates, origins_of}
use Rattle.net_conf.specs.Costs.{session_up, is_up}
use Rattle.net_conf.specs.Sites.{session_of, sessions_of, peers_of, site_at, site_of}
use Rattle.net_conf.specs.RouterSites.{router_site}
use Rattle.net_conf.specs.Edits.{edited, refusal_of, tests_of, lacks_node, lacks_either, has_bad_end, switched, router_switched, with_rule, without_rules}
use Rattle.net_conf.specs.Scopes.{scope, router_in, SitesOfOthersStay, SessionsStay, AreRoutersBefore, AreRoutersAfter, OriginsAloneChange, OtherOriginsStay}
use Rattle.net_conf.proofs.Nodes.{some_mapped}
use Rattle.net_conf.proofs.Unseen.{any_with, any_without, filter_with, filter_without, lookup_with, lookup_without}
use Rattle.net_conf.proofs.RouterLaws.{origin_listed}
use Rattle.net_conf.proofs.Soundness.{all_fail, both_there}

pub end_exact : CmpEqualImpliesEq end_cmp
end_exact x y same =
    let made : Addr × Addr → End = λ parts. end_of parts.0 parts.1 in
    ap made (exact_pairs addr_cmp addr_cmp addr_exact addr_exact (x.router, x.peer) (y.router, y.peer) same)

abbrev pub origination : Addr → Prefix → Origination
origination r p = record { router = r; prefix = p }

pub origination_exact : CmpEqualImpliesEq origination_cmp
origination_exact x y same =
    let made : Addr × Prefix → Origination = λ parts. origination parts.0 parts.1 in
    ap made (exact_pairs addr_cmp prefix_cmp addr_exact prefix_exact (x.router, x.prefix) (y.router, y.prefix) same)

-- ONE SITE

-- the router sees the same of both: its settings, and what it originates
record SeesSame (c d : Configuration) (r : Addr) : Type 0 where
  client : (u : Addr) → is_client d r u ≡ is_client c r u
  own_next : (u : Addr) → puts_itself d r u ≡ puts_itself c r u
  policy_in : (u : Addr) → import_rules d r u ≡ import_rules c r u
  policy_out : (u : Addr) → export_rules d r u ≡ export_rules c r u
  cluster : cluster_id d r ≡ cluster_id c r
  reflector : is_reflector d r ≡ is_reflector c r
  med_always : compares_all_meds d r ≡ compares_all_meds c r
  origins : origins_of d r ≡ origins_of c r

each_same : {X Y : Type 0} (f g : X → Y) → ((x : X) → f x ≡ g x) → (xs : List X) → map f xs ≡ map g xs
each_same f g same [] = refl
each_same f g same (x ∷ xs) = ap (λ y. y ∷ map f xs) (same x) ∙ ap (λ ys. g x ∷ ys) (each_same f g same xs)

-- what is made at once is what is made in two steps
pub mapped : {X Y Z : Type 0} (f : X → Y) (g : Y → Z) (h : X → Z) → ((x : X) → h x ≡ g (f x)) →
    (virtual : Bool) (o : Option X) → (if virtual then None else option_map h o) ≡ option_map {T = Y} g (if virtual
    then None else option_map f o)
mapped f g h same true o = refl
mapped f g h same false None = refl
mapped f g h same false (Some x) = ap Some (same x)

module _ (c : Configuration) (clients own_next : List End) (imports exports : List (End × List Rule))
    (clusters : List (Addr × Addr)) (med_always : List Addr) (origins : List Origination) where
  -- with other settings, and other originations
  abbrev with_settings : Configuration
  with_settings = record c {
    clients = clients;
    own_next = own_next;
    imports = imports;
    exports = exports;
    clusters = clusters;
    med_always = med_always;
    origins = origins;
  }

  module _ (r : Addr) (seen : SeesSame c with_settings r) where
    abbrev session_with : Addr → Bool → Bool → List Rule → List Rule → SiteSession
    session_with u client own_next policy_in policy_out = record {
      peer = u;
      peer_asn = as_of c u;
      up = is_up c r u;
      external = is_external c r u;
      client = client;
      own_next = own_next;
      policy_in = policy_in;
      policy_out = policy_out;
    }

    same_session : (u : Addr) → session_of with_settings r u ≡ session_of c r u
    unfolding session_up
    same_session u =
        ap (λ x. session_with u x (puts_itself with_settings r u) (import_rules with_settings r u)
        (export_rules with_settings r u)) (seen.client u)
        ∙ ap (λ x. session_with u (is_client c r u) x (import_rules with_settings r u) (export_rules with_settings r u))
        (seen.own_next u)
        ∙ ap (λ x. session_with u (is_client c r u) (puts_itself c r u) x (export_rules with_settings r u))
        (seen.policy_in u)
        ∙ ap (λ x. session_with u (is_client c r u) (puts_itself c r u) (import_rules c r u) x) (seen.policy_out u)

    same_sessions : sessions_of with_settings r ≡ sessions_of c r
    same_sessions = each_same (session_of with_settings r) (session_of c r) same_session (peers_of c r)

    abbrev site_with : Addr → Bool → Bool → List Prefix → List SiteSession → Option SiteConf
    site_with cluster reflector med_always originated sessions =
        if is_virtual c r then None
        else option_map (λ n. record (site_at c r n) {
          cluster = cluster;
          reflector = reflector;
          med_always = med_always;
          origins = originated;
          sessions = sessions;
        }) (node_at c r)

    same_site : router_site with_settings r ≡ router_site c r
    unfolding site_of
    same_site =
        ap (λ x. site_with x (is_reflector with_settings r) (compares_all_meds with_settings r)
        (origins_of with_settings r) (sessions_of with_settings r)) seen.cluster
        ∙ ap (λ x. site_with (cluster_id c r) x (compares_all_meds with_settings r) (origins_of with_settings r)
        (sessions_of with_settings r)) seen.reflector
        ∙ ap (λ x. site_with (cluster_id c r) (is_reflector c r) x (origins_of with_settings r)
        (sessions_of with_settings r)) seen.med_always
        ∙ ap (λ x. site_with (cluster_id c r) (is_reflector c r) (compares_all_meds c r) x
        (sessions_of with_settings r)) seen.origins
        ∙ ap (site_with (cluster_id c r) (is_reflector c r) (compares_all_meds c r) (origins_of c r)) same_sessions

-- ANOTHER ROUTER

-- what concerns the one is not at the keys of the other
module _ (c : Configuration) (a r : Addr) (apart : same_addr r a ≡ false) where
  end_apart : (u b : Addr) → is_at (end_cmp (end_of r u)) (end_of a b) ≡ false
  end_apart u b = sym (both_tied _ _ _ _ (unsigned_ties r.0 a.0) (unsigned_ties u.0 b.0))
      ∙ and_left (r.0 == a.0) (u.0 == b.0) apart

  addr_apart : is_at (addr_cmp r) a ≡ false
  addr_apart = sym (unsigned_ties r.0 a.0) ∙ apart

  turned : (a.0 == r.0) ≡ false
  turned = nat_eq_equiv.symm a.0 r.0 ∙ apart

  switched_apart : (on : Bool) (b : Addr) (test : End → Bool) → test (end_of a b) ≡ false → (es : List End) →
      list_any test (switched on (end_of a b) es) ≡ list_any test es
  switched_apart true b test fails es = any_with end_cmp end_exact test (end_of a b) fails es
  switched_apart false b test fails es = any_without end_cmp end_exact test (end_of a b) fails es

  router_switched_apart : (on : Bool) (rs : List Addr) → list_any (is_at (addr_cmp r)) (router_switched on a rs)
      ≡ list_any (is_at (addr_cmp r)) rs
  router_switched_apart true rs = any_with addr_cmp addr_exact (is_at (addr_cmp r)) a addr_apart rs
  router_switched_apart false rs = any_without addr_cmp addr_exact (is_at (addr_cmp r)) a addr_apart rs

  rules_with : (b u : Addr) (rule : Rule) (policies : List (End × List Rule)) →
      rules_at (with_rule (end_of a b) rule policies) (end_of r u) ≡ rules_at policies (end_of r u)
  rules_with b u rule policies =
      ap (λ rules. unwrap_or rules []) (lookup_with end_cmp end_exact (is_at (end_cmp (end_of r u))) (end_of a b)
      (end_apart u b) (rules_at policies (end_of a b) ++ rule ∷ []) policies)

  rules_without : (b u : Addr) (policies : List (End × List Rule)) →
      rules_at (without_rules (end_of a b) policies) (end_of r u) ≡ rules_at policies (end_of r u)
  rules_without b u policies =
      ap (λ rules. unwrap_or rules []) (lookup_without end_cmp end_exact (is_at (end_cmp (end_of r u))) (end_of a b)
      (end_apart u b) policies)

  site_by_client : (b : Addr) (on : Bool) → router_site (edited c (Client a b on)) r ≡ router_site c r
  site_by_client b on = same_site c (switched on (end_of a b) c.clients) c.own_next c.imports c.exports c.clusters
      c.med_always c.origins r (record {
        client = λ u. switched_apart on b (is_at (end_cmp (end_of r u))) (end_apart u b) c.clients;
        own_next = λ u. refl;
        policy_in = λ u. refl;
        policy_out = λ u. refl;
        cluster = refl;
        reflector = switched_apart on b (λ e. e.router.0 == r.0) turned c.clients;
        med_always = refl;
        origins = refl;
      })

  site_by_own_next : (b : Addr) (on : Bool) → router_site (edited c (OwnNext a b on)) r ≡ router_site c r
  site_by_own_next b on = same_site c c.clients (switched on (end_of a b) c.own_next) c.imports c.exports c.clusters
      c.med_always c.origins r (record {
        client = λ u. refl;
        own_next = λ u. switched_apart on b (is_at (end_cmp (end_of r u))) (end_apart u b) c.own_next;
        policy_in = λ u. refl;
        policy_out = λ u. refl;
        cluster = refl;
        reflector = refl;
        med_always = refl;
        origins = refl;
      })

  site_by_imports : (imports : List (End × List Rule)) →
      ((u : Addr) → rules_at imports (end_of r u) ≡ import_rules c r u) →
      router_site (record c { imports = imports }) r ≡ router_site c r
  site_by_imports imports same = same_site c c.clients c.own_next imports c.exports c.clusters c.med_always c.origins r
      (record {
        client = λ u. refl;
        own_next = λ u. refl;
        policy_in = same;
        policy_out = λ u. refl;
        cluster = refl;
        reflector = refl;
        med_always = refl;
        origins = refl;
      })

  site_by_exports : (exports : List (End × List Rule)) →
      ((u : Addr) → rules_at exports (end_of r u) ≡ export_rules c r u) →
      router_site (record c { exports = exports }) r ≡ router_site c r
  site_by_exports exports same = same_site c c.clients c.own_next c.imports exports c.clusters c.med_always c.origins r
      (record {
        client = λ u. refl;
        own_next = λ u. refl;
        policy_in = λ u. refl;
        policy_out = same;
        cluster = refl;
        reflector = refl;
        med_always = refl;
        origins = refl;
      })

  site_by_cluster : (id : Addr) → router_site (edited c (Cluster a id)) r ≡ router_site c r
  site_by_cluster id = same_site c c.clients c.own_next c.imports c.exports (insert_entry addr_cmp c.clusters a id)
      c.med_always c.origins r (record {
        client = λ u. refl;
        own_next = λ u. refl;
        policy_in = λ u. refl;
        policy_out = λ u. refl;
        cluster = ap (λ set. unwrap_or set r)
            (lookup_with addr_cmp addr_exact (is_at (addr_cmp r)) a addr_apart id c.clusters);
        reflector = refl;
        med_always = refl;
        origins = refl;
      })

  site_by_comparison : (on : Bool) → router_site (edited c (MedAlways a on)) r ≡ router_site c r
  site_by_comparison on = same_site c c.clients c.own_next c.imports c.exports c.clusters
      (router_switched on a c.med_always) c.origins r (record {
        client = λ u. refl;
        own_next = λ u. refl;
        policy_in = λ u. refl;
        policy_out = λ u. refl;
        cluster = refl;
        reflector = refl;
        med_always = router_switched_apart on c.med_always;
        origins = refl;
      })

  site_by_origins : (origins : List Origination) →
      filter (λ o. o.router.0 == r.0) origins ≡ filter (λ o. o.router.0 == r.0) c.origins →
      router_site (record c { origins = origins }) r ≡ router_site c r
  site_by_origins origins same = same_site c c.clients c.own_next c.imports c.exports c.clusters c.med_always origins r
      (record {
        client = λ u. refl;
        own_next = λ u. refl;
        policy_in = λ u. refl;
        policy_out = λ u. refl;
        cluster = refl;
        reflector = refl;
        med_always = refl;
        origins = ap (map (λ (o : Origination). o.prefix)) same;
      })

apart_from : (a b r : Addr) → Some a ≡ Some b → same_addr r b ≡ false → same_addr r a ≡ false
apart_from a b r is other = ap (same_addr r) (same_Some a b is) ∙ other

pub sites_of_others : SitesOfOthersStay
sites_of_others c (Client a b on) one r is other = site_by_client c a r (apart_from a one r is other) b on
sites_of_others c (OwnNext a b on) one r is other = site_by_own_next c a r (apart_from a one r is other) b on
sites_of_others c (Cluster a id) one r is other = site_by_cluster c a r (apart_from a one r is other) id
sites_of_others c (MedAlways a on) one r is other = site_by_comparison c a r (apart_from a one r is other) on
sites_of_others c (AddRule a b Import rule) one r is other = let apart = apart_from a one r is other in
    site_by_imports c a r apart _ (λ u. rules_with c a r apart b u rule c.imports)
sites_of_others c (AddRule a b Export rule) one r is other = let apart = apart_from a one r is other in
    site_by_exports c a r apart _ (λ u. rules_with c a r apart b u rule c.exports)
sites_of_others c (Clear a b Import) one r is other = let apart = apart_from a one r is other in
    site_by_imports c a r apart _ (λ u. rules_without c a r apart b u c.imports)
sites_of_others c (Clear a b Export) one r is other = let apart = apart_from a one r is other in
    site_by_exports c a r apart _ (λ u. rules_without c a r apart b u c.exports)
sites_of_others c (Origin a p) one r is other =
    let apart = apart_from a one r is other in
    site_by_origins c a r apart _ (filter_with origination_cmp origination_exact (λ o. o.router.0 == r.0)
    (origination a p) (turned c a r apart) c.origins)
sites_of_others c (NoOrigin a p) one r is other =
    let apart = apart_from a one r is other in
    site_by_origins c a r apart _ (filter_without origination_cmp origination_exact (λ o. o.router.0 == r.0)
    (origination a p) (turned c a r apart) c.origins)
sites_of_others c _ one r is other = absurd (none-some one is)

pub sessions_stay : SessionsStay
unfolding session_up
sessions_stay c (Client a b on) one r t is = refl
sessions_stay c (OwnNext a b on) one r t is = refl
sessions_stay c (Cluster a id) one r t is = refl
sessions_stay c (MedAlways a on) one r t is = refl
sessions_stay c (AddRule a b Import rule) one r t is = refl
sessions_stay c (AddRule a b Export rule) one r t is = refl
sessions_stay c (Clear a b Import) one r t is = refl
sessions_stay c (Clear a b Export) one r t is = refl
sessions_stay c (Origin a p) one r t is = refl
sessions_stay c (NoOrigin a p) one r t is = refl
sessions_stay c _ one r t is = absurd (none-some one is)

-- THE ONE ROUTER

-- a router stands at the address
abbrev StandsAt : Configuration → Addr → Type 0
StandsAt c a = (has_node c a ≡ true) × (is_virtual c a ≡ false)

router_there : (c : Configuration) (a : Addr) → StandsAt c a → is_some (router_site c a) ≡ true
unfolding site_of
router_there c a there = ap (λ virtual. is_some (if virtual then None else site_of c a)) there.1
    ∙ (some_mapped _ (node_at c a) ∙ there.0)

one_there : (c : Configuration) (a b : Addr) → lacks_either c a b ≡ false → has_node c a ≡ true
one_there c a b lacks = (both_there (has_node c a) (has_node c b) lacks).0

passes_both : (c : Configuration) (e : Edit) → refusal_of c e ≡ None → (lacks_node c e ≡ false)
    × (has_bad_end c e ≡ false)
unfolding refusal_of
passes_both c e none = let all = all_fail (tests_of c e) none in (all.0, all.1.1.1.0)

-- the router of an edit of settings that is not refused
stands : (c : Configuration) (e : Edit) (one : Addr) → router_in (scope e) ≡ Some one → lacks_node c e ≡ false →
    has_bad_end c e ≡ false → StandsAt c one
stands c (Client a b on) one is lacks bad = subst (StandsAt c) (same_Some a one is) (one_there c a b lacks, bad)
stands c (OwnNext a b on) one is lacks bad = subst (StandsAt c) (same_Some a one is) (one_there c a b lacks, bad)
stands c (Cluster a id) one is lacks bad = subst (StandsAt c) (same_Some a one is) (not-false (has_node c a) lacks, bad)
stands c (MedAlways a on) one is lacks bad = subst (StandsAt c) (same_Some a one is) (
  not-false (has_node c a) lacks,
  bad,
)
stands c (AddRule a b side rule) one is lacks bad = subst (StandsAt c) (same_Some a one is) (one_there c a b lacks, bad)
stands c (Clear a b side) one is lacks bad = subst (StandsAt c) (same_Some a one is) (one_there c a b lacks, bad)
stands c (Origin a p) one is lacks bad = subst (StandsAt c) (same_Some a one is) (not-false (has_node c a) lacks, bad)
stands c (NoOrigin a p) one is lacks bad = subst (StandsAt c) (same_Some a one is) (not-false (has_node c a) lacks, bad)
stands c _ one is lacks bad = absurd (none-some one is)

-- it stands there still
stands_after : (c : Configuration) (e : Edit) (one : Addr) → router_in (scope e) ≡ Some one → StandsAt c one →
    StandsAt (edited c e) one
stands_after c (Client a b on) one is there = there
stands_after c (OwnNext a b on) one is there = there
stands_after c (Cluster a id) one is there = there
stands_after c (MedAlways a on) one is there = there
stands_after c (AddRule a b Import rule) one is there = there
stands_after c (AddRule a b Export rule) one is there = there
stands_after c (Clear a b Import) one is there = there
stands_after c (Clear a b Export) one is there = there
stands_after c (Origin a p) one is there = there
stands_after c (NoOrigin a p) one is there = there
stands_after c _ one is there = absurd (none-some one is)

stands_before : (c : Configuration) (e : Edit) (one : Addr) → router_in (scope e) ≡ Some one →
    refusal_of c e ≡ None → StandsAt c one
stands_before c e one is none = let both = passes_both c e none in stands c e one is both.0 both.1

pub router_before : AreRoutersBefore
router_before c e one is none = router_there c one (stands_before c e one is none)

pub router_after : AreRoutersAfter
router_after c e one is none = router_there (edited c e) one (stands_after c e one is (stands_before c e one is none))

-- WHAT IT ORIGINATES

module _ (c : Configuration) (a : Addr) (origins : List Origination) where
  abbrev with_origins : Configuration
  with_origins = record c { origins = origins }

  -- other originations change a site in what it originates alone
  other_origins_alone : router_site with_origins a
      ≡ option_map (λ (site : SiteConf). record site { origins = origins_of with_origins a }) (router_site c a)
  unfolding site_of session_up
  other_origins_alone = mapped _ (λ (site : SiteConf). record site { origins = origins_of with_origins a }) _ (λ n.
      refl) (is_virtual c a) (node_at c a)

-- the prefix that an edit concerns, if it is but one
abbrev prefix_in : Scope → Option Prefix
prefix_in (Route a p) = Some p
prefix_in _ = None

pub origins_alone : OriginsAloneChange
origins_alone c (Origin a p) one q is = other_origins_alone c one _
origins_alone c (NoOrigin a p) one q is = other_origins_alone c one _
origins_alone c _ one q is = absurd (none-some q (ap prefix_in is))

origination_apart : (one a : Addr) (q p : Prefix) → same_prefix q p ≡ false →
    is_at (origination_cmp (origination one q)) (origination a p) ≡ false
origination_apart one a q p other =
    sym (both_tied _ _ _ _ (unsigned_ties one.0 a.0)
    (both_tied _ _ _ _ (unsigned_ties q.addr.0 p.addr.0) (unsigned_ties q.len p.len)))
    ∙ and_right (one.0 == a.0) (same_prefix q p) other

-- the prefixes listed are alike in this one, where the originations are
listed_alike : (c : Configuration) (one : Addr) (q : Prefix) (origins : List Origination) →
    list_any (is_at (origination_cmp (origination one q))) origins ≡ originates c one q →
    list_any (same_prefix q) (origins_of (record c { origins = origins }) one)
    ≡ list_any (same_prefix q) (origins_of c one)
listed_alike c one q origins same = origin_listed (record c { origins = origins }) one q
    ∙ (same ∙ sym (origin_listed c one q))

apart_by_prefix : (one a : Addr) (q p changed : Prefix) → Some p ≡ Some changed → same_prefix q changed ≡ false →
    is_at (origination_cmp (origination one q)) (origination a p) ≡ false
apart_by_prefix one a q p changed is other = origination_apart one a q p (ap (same_prefix q) (same_Some p changed is)
    ∙ other)

pub other_origins : OtherOriginsStay
other_origins c (Origin a p) one changed q is other =
    listed_alike c one q _ (any_with origination_cmp origination_exact (is_at (origination_cmp (origination one q)))
    (origination a p) (apart_by_prefix one a q p changed (ap prefix_in is) other) c.origins)
other_origins c (NoOrigin a p) one changed q is other =
    listed_alike c one q _ (any_without origination_cmp origination_exact (is_at (origination_cmp (origination one q)))
    (origination a p) (apart_by_prefix one a q p changed (ap prefix_in is) other) c.origins)
other_origins c _ one changed q is other = absurd (none-some changed (ap prefix_in is))
