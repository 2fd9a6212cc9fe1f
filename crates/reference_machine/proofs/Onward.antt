-- The NEXT_HOP of a chosen route that is not the router's own has a first hop.
use Rattle.std.proofs.Common.{◌≡◌, Bool, true, false, cond, List, [], ◌∷◌, ◌++◌, filter, slice_get, Option, Some, None, option_map, option_and_then, is_some, is_none, if◌then◌else◌, refl, sym, ap, subst, ◌∙◌}
use Rattle.std.specs.declared.cmp.Ordering.{Ordering}
use Rattle.std.specs.declared.cmp.Ordering.TheVariants.{Less, Equal, Greater}
use Rattle.std.specs.List.{filter_map, cons_option, AllByRecursion}
use Rattle.std.specs.FinMap as finite
use Rattle.std.specs.FinMap.Entries.{put, by_order}
use Rattle.std.proofs.lemmas.Bool.{true≢false}
use Rattle.std.proofs.lemmas.Option.{none-some, same_Some}
use Rattle.net_prefix.specs.declared.addr.Addr.{Addr}
use Rattle.net_prefix.specs.Prefix.{Prefix}
use Rattle.path_attr.specs.Path.{holds}
use Rattle.path_attr.specs.declared.attr.Attr.{Attr}
use Rattle.path_attr.specs.Attribute.{same_maybe_addr}
use Rattle.igp_cost.specs.Trees.{Reached, label_in, cost_in, first_hop_in}
use Rattle.route_policy.specs.declared.rule.Action.{Action}
use Rattle.route_policy.specs.Judging.{judged}
use Rattle.net_conf.specs.Configuration.{Configuration, node_at}
use Rattle.net_conf.specs.Costs.{costs_of}
use Rattle.net_conf.specs.Sites.{site_at, site_of}
use Rattle.net_conf.specs.declared.site.SiteConf.{SiteConf}
use Rattle.net_conf.specs.declared.site.SiteSession.{SiteSession}
use Rattle.net_conf.specs.declared.tables.Node.{Node}
use Rattle.route_select.specs.declared.candidate.Source.{Source}
use Rattle.route_select.specs.declared.candidate.Source.TheVariants.{Own, Peer as FromPeer}
use Rattle.route_select.specs.declared.candidate.Candidate.{Candidate}
use Rattle.route_select.specs.declared.candidate.Reason.{Reason}
use Rattle.route_select.specs.declared.candidate.Reason.TheVariants.{Loop, Originator, Cluster, Denied, Unresolved}
use Rattle.route_select.specs.declared.candidate.Standing.{Standing}
use Rattle.route_select.specs.declared.candidate.Standing.TheVariants.{Excluded, Considered}
use Rattle.route_select.specs.declared.filter.Filter.{Filter}
use Rattle.route_select.specs.Selection.{Standings, is_own, left_by, left_by_all, filters, best_among, best_of, source_cmp, no_standings, with_standing, candidate_of, considered_in, considered}
use Rattle.route_select.proofs.EntryLemmas.{source_total}
use Rattle.reference_machine.specs.declared.rows.RouteKey.{RouteKey}
use Rattle.reference_machine.specs.Network.{Network}
use Rattle.reference_machine.specs.Decision.{own_candidate, is_originated, own_standings, has_cluster_loop, is_denial, exclusion, peer_candidate, standing_by, peer_standing, route_from, standing_over, standing_from, routes_at, added, standings, best}
use Rattle.reference_machine.specs.Tracing.{OnwardLaw}
use Rattle.reference_machine.proofs.Known.{no_entries}

-- WHAT HOLDS OF ALL OF A LIST

module _ {C : Type 0} (P : C → Type 0) where
  kept_if : (b : Bool) (x : C) (xs : List C) → P x → AllByRecursion P xs → AllByRecursion P (cond b (x ∷ xs) xs)
  kept_if true x xs is all = (is, all)
  kept_if false x xs is all = all

  all_filtered : (test : C → Bool) (xs : List C) → AllByRecursion P xs → AllByRecursion P (filter test xs)
  all_filtered test [] all = tt
  all_filtered test (x ∷ xs) all = kept_if (test x) x (filter test xs) all.0 (all_filtered test xs all.1)

  all_joined : (xs ys : List C) → AllByRecursion P xs → AllByRecursion P ys → AllByRecursion P (xs ++ ys)
  all_joined [] ys all more = more
  all_joined (x ∷ xs) ys all more = (all.0, all_joined xs ys all.1 more)

  of_first : (xs : List C) (b : C) → AllByRecursion P xs → slice_get xs 0 ≡ Some b → P b
  of_first [] b all first = let e : None ≡ Some b = first in absurd (none-some b e)
  of_first (x ∷ xs) b all first = let e : Some x ≡ Some b = first in subst P (same_Some x b e) all.0

-- WHAT HOLDS OF ALL THAT IS CONSIDERED

module _ (P : Candidate → Type 0) where
  all_left : (always : Bool) (ks : List Filter) (ms : List Candidate) → AllByRecursion P ms →
      AllByRecursion P (left_by_all always ks ms)
  all_left always [] ms all = all
  all_left always (k ∷ ks) ms all = all_left always ks (left_by always k ms) (all_filtered P _ ms all)

  of_best_among : (always : Bool) (ms : List Candidate) (b : Candidate) → AllByRecursion P ms →
      best_among always ms ≡ Some b → P b
  unfolding best_among
  of_best_among always ms b all best =
      of_first P (left_by_all always filters ms) b (all_left always filters ms all) best

  -- it holds of the route, if that is considered
  abbrev Holds : Standing → Type 0
  Holds (Excluded reason) = Unit {0}
  Holds (Considered m) = P m

  abbrev HoldsAt : Source × Standing → Type 0
  HoldsAt e = Holds e.1

  abbrev AllHold : List (Source × Standing) → Type 0
  AllHold es = AllByRecursion HoldsAt es

  one_considered : (s : Standing) (ms : List Candidate) → Holds s → AllByRecursion P ms →
      AllByRecursion P (cons_option (candidate_of s) ms)
  one_considered (Excluded reason) ms is all = all
  one_considered (Considered m) ms is all = (is, all)

  all_considered : (es : List (Source × Standing)) → AllHold es → AllByRecursion P (considered_in es)
  all_considered [] all = tt
  all_considered (e ∷ es) all = one_considered e.1 (considered_in es) all.0 (all_considered es all.1)

  put_by : (o : Ordering) (k : Source) (v : Standing) (e : Source × Standing) (es more : List (Source × Standing)) →
      Holds v → Holds e.1 → AllHold es → AllHold more →
      AllHold (by_order o ((k, v) ∷ e ∷ es) ((e.0, v) ∷ es) (e ∷ more))
  put_by Less k v e es more is here all later = (is, (here, all))
  put_by Equal k v e es more is here all later = (is, all)
  put_by Greater k v e es more is here all later = (here, later)

  all_put : (k : Source) (v : Standing) (es : List (Source × Standing)) → Holds v → AllHold es →
      AllHold (put source_cmp k v es)
  all_put k v [] is all = (is, tt)
  all_put k v (e ∷ es) is all = put_by (source_cmp k e.0) k v e es (put source_cmp k v es) is all.0 all.1
      (all_put k v es is all.1)

  all_added : (es : List (Source × Standing)) (m : Standings) → AllHold es → AllHold (finite.entries m.known) →
      AllHold (finite.entries (added m es).known)
  all_added [] m each all = all
  all_added (e ∷ es) m each all =
      all_added es (with_standing e.0 e.1 m) each.1
      (subst (AllByRecursion HoldsAt) (sym (finite.entries-insert source_total m.known e.0 e.1))
      (all_put e.0 e.1 (finite.entries m.known) each.0 all))

-- WHAT A ROUTER CONSIDERS

none_left : (a b c d e : Bool) → (if a then Some Loop else if b then Some Originator else if c then Some Cluster
    else if d then Some Denied else if e then Some Unresolved else None) ≡ None → e ≡ false
none_left true b c d e none = absurd (none-some Loop (sym none))
none_left false true c d e none = absurd (none-some Originator (sym none))
none_left false false true d e none = absurd (none-some Cluster (sym none))
none_left false false false true e none = absurd (none-some Denied (sym none))
none_left false false false false true none = absurd (none-some Unresolved (sym none))
none_left false false false false false none = refl

some_there : {A : Type 0} (o : Option A) → is_none o ≡ false → is_some o ≡ true
some_there None there = absurd (true≢false there)
some_there (Some x) there = refl

module _ (site : SiteConf) where
  -- a peer's route whose NEXT_HOP has a cost
  abbrev HasCost : Candidate → Type 0
  HasCost m = is_own m.source ≡ false → is_some (cost_in site.costs m.attr.next) ≡ true

  by_reason : (x : SiteSession) (action : Action) (attr : Attr) (o : Option Reason) → exclusion site action attr ≡ o →
      Holds HasCost (standing_by o (peer_candidate site x action attr))
  by_reason x action attr (Some reason) is = tt
  by_reason x action attr None is =
      λ other. some_there (cost_in site.costs attr.next)
      (none_left (holds site.asn attr.path) (same_maybe_addr attr.oid (Some site.me)) (has_cluster_loop site attr)
      (is_denial action) (is_none (cost_in site.costs attr.next)) is)

  peers_have : (p : Prefix) (x : SiteSession) (attr : Attr) → Holds HasCost (peer_standing site p x attr)
  peers_have p x attr =
      let action = judged x.policy_in p attr in
      by_reason x action attr (exclusion site action attr) refl

  own_have : (b : Bool) → AllHold HasCost (if b then (Own, Considered (own_candidate site.me)) ∷ [] else [])
  own_have true = (λ other. absurd (true≢false other), tt)
  own_have false = tt

  module _ (p : Prefix) (known : List (RouteKey × Attr)) where
    if_up : (up : Bool) (x : SiteSession) (attr : Attr) (es : List (Source × Standing)) → AllHold HasCost es →
        AllHold HasCost (cons_option (if up then Some (FromPeer x.peer, peer_standing site p x attr) else None) es)
    if_up true x attr es all = (peers_have p x attr, all)
    if_up false x attr es all = all

    over_session : (x : SiteSession) (o : Option Attr) (es : List (Source × Standing)) → AllHold HasCost es →
        AllHold HasCost (cons_option (standing_over site p x o) es)
    over_session x None es all = all
    over_session x (Some attr) es all = if_up x.up x attr es all

    sessions_have : (xs : List SiteSession) → AllHold HasCost (filter_map (standing_from site p known) xs)
    sessions_have [] = tt
    sessions_have (x ∷ xs) = over_session x (route_from known site.me p x.peer)
        (filter_map (standing_from site p known) xs) (sessions_have xs)

    routes_have : AllHold HasCost (routes_at site p known)
    routes_have = all_joined (HoldsAt HasCost) (own_standings site p)
        (filter_map (standing_from site p known) site.sessions) (own_have (is_originated site p))
        (sessions_have site.sessions)

    known_have : AllHold HasCost (finite.entries (standings site p known).known)
    known_have = all_added HasCost (routes_at site p known) (no_standings site.med_always) routes_have
        (subst (AllByRecursion (HoldsAt HasCost)) (sym no_entries) tt)

    best_has : (b : Candidate) → best_of (standings site p known) ≡ Some b → HasCost b
    best_has b is = of_best_among HasCost (standings site p known).med_always (considered (standings site p known)) b
        (all_considered HasCost (finite.entries (standings site p known).known) known_have) is

-- THE ROUTER

some_mapped : {A B : Type 0} (f : A → B) (o : Option A) → is_some (option_map f o) ≡ is_some o
some_mapped f None = refl
some_mapped f (Some x) = refl

-- what has a cost has a first hop
hop_if_cost : (t : Reached) (x : Addr) → is_some (cost_in t x) ≡ true → is_some (first_hop_in t x) ≡ true
hop_if_cost t x has = some_mapped (λ l. l.hop) (label_in t x) ∙ sym (some_mapped (λ l. l.cost) (label_in t x)) ∙ has

costs_by : (c : Configuration) (r : Addr) (n : Option Node) (site : SiteConf) → option_map (site_at c r) n ≡ Some site →
    site.costs ≡ costs_of c r
costs_by c r None site is = absurd (none-some site is)
costs_by c r (Some n) site is = sym (ap (λ (s : SiteConf). s.costs) (same_Some _ _ is))

costs_in : (c : Configuration) (r : Addr) (site : SiteConf) → site_of c r ≡ Some site → site.costs ≡ costs_of c r
unfolding site_of
costs_in c r site is = costs_by c r (node_at c r) site is

by_site : (s : Network) (r : Addr) (p : Prefix) (b : Candidate) (o : Option SiteConf) → site_of s.conf r ≡ o →
    option_and_then (λ site. best_of (standings site p s.received)) o ≡ Some b → is_own b.source ≡ false →
    is_some (first_hop_in (costs_of s.conf r) b.attr.next) ≡ true
by_site s r p b None at is other = absurd (none-some b is)
by_site s r p b (Some site) at is other =
    hop_if_cost (costs_of s.conf r) b.attr.next
    (subst (λ t. is_some (cost_in t b.attr.next) ≡ true) (costs_in s.conf r site at)
    (best_has site p s.received b is other))

pub onward_law : OnwardLaw
unfolding best
onward_law s r p b is other = by_site s r p b (site_of s.conf r) refl is other
