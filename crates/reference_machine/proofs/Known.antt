-- A route is chosen only for a prefix that the router originates or has received.
use Rattle.std.proofs.Common.{◌≡◌, Bool, true, false, cond, ◌&&◌, ◌||◌, ◌==◌, List, [], ◌∷◌, map, fold, Option, Some, None, option_map, option_and_then, is_some, refl, sym, ap, ◌∙◌}
use Rattle.std.specs.declared.cmp.Ordering.{Ordering}
use Rattle.std.specs.declared.cmp.Ordering.TheVariants.{Less, Equal, Greater}
use Rattle.std.specs.Ordering.{match_ordering, is_eq}
use Rattle.std.specs.Cmp.{both_tied, unsigned_ties, unsigned_Decides}
use Rattle.std.specs.List.{list_any, filter_map, cons_option}
use Rattle.std.specs.BTreeMap.{is_at}
use Rattle.std.specs.BTreeSet.{insert_key}
use Rattle.std.specs.FinMap as finite
use Rattle.std.proofs.lemmas.Bool.{true≢false, and_left, and_right, and_parts, and_from, or_parts}
use Rattle.std.proofs.lemmas.Cmp.{nat_eq_equiv}
use Rattle.std.proofs.lemmas.List.{nil_from_length}
use Rattle.std.proofs.lemmas.List.Folds.{list_any-append}
use Rattle.net_prefix.specs.declared.addr.Addr.{Addr}
use Rattle.net_prefix.specs.Address.{same_addr}
use Rattle.net_prefix.specs.Prefix.{Prefix, same_prefix, prefix_cmp}
use Rattle.net_prefix.specs.Orders.{prefix_exact}
use Rattle.path_attr.specs.declared.attr.Attr.{Attr}
use Rattle.net_conf.specs.Configuration.{Configuration, node_at, is_reflector, cluster_id, compares_all_meds, origins_of}
use Rattle.net_conf.specs.Costs.{costs_of}
use Rattle.net_conf.specs.Sites.{sessions_of, site_of}
use Rattle.net_conf.specs.declared.tables.Node.{Node}
use Rattle.net_conf.specs.declared.site.SiteConf.{SiteConf}
use Rattle.net_conf.specs.declared.site.SiteSession.{SiteSession}
use Rattle.route_select.specs.declared.candidate.Source.{Source}
use Rattle.route_select.specs.declared.candidate.Standing.{Standing}
use Rattle.route_select.specs.Selection.{no_standings, best_of, best_among, considered_in, source_cmp}
use Rattle.reference_machine.specs.declared.rows.RouteKey.{RouteKey}
use Rattle.reference_machine.specs.Network.{Network, route_cmp, received_by}
use Rattle.reference_machine.specs.Decision.{route_from, is_originated, standing_over, standing_from, routes_at, added, standings, best}
use Rattle.reference_machine.specs.Advertising.{prefixes_at, in_order}

-- PREFIXES

pub same_prefix_true : (p q : Prefix) → same_prefix p q ≡ true → p ≡ q
same_prefix_true p q h =
    let parts = and_parts (p.addr.0 == q.addr.0) (p.len == q.len) h in
    let addr = ap (λ n. record { 0 = n }) ((unsigned_Decides p.addr.0 q.addr.0).0 parts.0) in
    let len = (unsigned_Decides p.len q.len).0 parts.1 in
    λ i. record { addr = addr i; len = len i }

pub same_prefix_itself : (p : Prefix) → same_prefix p p ≡ true
same_prefix_itself p = and_from (p.addr.0 == p.addr.0) (p.len == p.len) ((unsigned_Decides p.addr.0 p.addr.0).1 refl)
    ((unsigned_Decides p.len p.len).1 refl)

or_true : (b c : Bool) → c ≡ true → (b || c) ≡ true
or_true true c h = refl
or_true false c h = h

in_either : (b c d : Bool) → (c ≡ true → d ≡ true) → (b || c) ≡ true → (b || d) ≡ true
in_either true c d still h = refl
in_either false c d still h = still h

-- a test of prefixes that some prefix of a list passes
module _ (test : Prefix → Bool) where
  kept_by_order : (r : Ordering) (k x : Prefix) (xs more : List Prefix) →
      (list_any test xs ≡ true → list_any test more ≡ true) → (test x || list_any test xs) ≡ true →
      list_any test (match_ordering r (k ∷ x ∷ xs) (x ∷ xs) (x ∷ more)) ≡ true
  kept_by_order Less k x xs more still h = or_true (test k) (test x || list_any test xs) h
  kept_by_order Equal k x xs more still h = h
  kept_by_order Greater k x xs more still h = in_either (test x) (list_any test xs) (list_any test more) still h

  any_kept : (k : Prefix) (xs : List Prefix) → list_any test xs ≡ true →
      list_any test (insert_key prefix_cmp xs k) ≡ true
  any_kept k [] h = absurd (true≢false (sym h))
  any_kept k (x ∷ xs) h = kept_by_order (prefix_cmp k x) k x xs (insert_key prefix_cmp xs k) (any_kept k xs) h

  new_by_order : (r : Ordering) (k x : Prefix) (xs more : List Prefix) → prefix_cmp k x ≡ r → test k ≡ true →
      list_any test more ≡ true → list_any test (match_ordering r (k ∷ x ∷ xs) (x ∷ xs) (x ∷ more)) ≡ true
  new_by_order Less k x xs more is h there = ap (λ b. b || (test x || list_any test xs)) h
  new_by_order Equal k x xs more is h there = ap (λ b. b || list_any test xs) (ap test (sym (prefix_exact k x is)) ∙ h)
  new_by_order Greater k x xs more is h there = or_true (test x) (list_any test more) there

  any_new : (k : Prefix) (xs : List Prefix) → test k ≡ true → list_any test (insert_key prefix_cmp xs k) ≡ true
  any_new k [] h = ap (λ b. b || false) h
  any_new k (x ∷ xs) h = new_by_order (prefix_cmp k x) k x xs (insert_key prefix_cmp xs k) refl h (any_new k xs h)

  abbrev gathered : List Prefix → List Prefix → List Prefix
  gathered qs ps = fold (λ xs p. insert_key prefix_cmp xs p) qs ps

  any_folded : (ps qs : List Prefix) → list_any test qs ≡ true → list_any test (gathered qs ps) ≡ true
  any_folded [] qs h = h
  any_folded (p ∷ ps) qs h = any_folded ps (insert_key prefix_cmp qs p) (any_kept p qs h)

  gathered_step : (b : Bool) (p : Prefix) (ps qs : List Prefix) → test p ≡ b →
      (list_any test ps ≡ true → list_any test (gathered (insert_key prefix_cmp qs p) ps) ≡ true) →
      (b || list_any test ps) ≡ true → list_any test (gathered (insert_key prefix_cmp qs p) ps) ≡ true
  gathered_step true p ps qs is later h = any_folded ps (insert_key prefix_cmp qs p) (any_new p qs is)
  gathered_step false p ps qs is later h = later h

  any_gathered : (ps qs : List Prefix) → list_any test ps ≡ true → list_any test (gathered qs ps) ≡ true
  any_gathered [] qs h = absurd (true≢false (sym h))
  any_gathered (p ∷ ps) qs h = gathered_step (test p) p ps qs refl (any_gathered ps (insert_key prefix_cmp qs p)) h

-- NO ROUTE FOR A PREFIX THAT WAS NOT RECEIVED

prefix_tied : (p q : Prefix) → same_prefix p q ≡ is_eq (prefix_cmp p q)
prefix_tied p q = both_tied _ _ _ _ (unsigned_ties p.addr.0 q.addr.0) (unsigned_ties p.len q.len)

route_tied : (k l : RouteKey) → (same_addr k.to l.to && (same_prefix k.prefix l.prefix && same_addr k.from l.from))
    ≡ is_at (route_cmp k) l
route_tied k l = both_tied _ _ _ _ (unsigned_ties k.to.0 l.to.0)
    (both_tied _ _ _ _ (prefix_tied k.prefix l.prefix) (unsigned_ties k.from.0 l.from.0))

abbrev prefixes_of : List (RouteKey × Attr) → List Prefix
prefixes_of es = map (λ x. x.0.prefix) es

abbrev at_route : Addr → Prefix → Addr → RouteKey
at_route r p u = record { to = r; prefix = p; from = u }

-- the head is no route of the router to the prefix, and no later one is
missed : (here : Bool) (u r : Addr) (p : Prefix) (e : RouteKey × Attr) (es : List (RouteKey × Attr)) →
    same_addr e.0.to r ≡ here → list_any (same_prefix p) (prefixes_of (received_by r (e ∷ es))) ≡ false →
    (is_at (route_cmp (at_route r p u)) e.0 ≡ false)
    × (list_any (same_prefix p) (prefixes_of (received_by r es)) ≡ false)
missed true u r p e es to none =
    let parts = or_parts (same_prefix p e.0.prefix) (list_any (same_prefix p) (prefixes_of (received_by r es)))
    (rw to at none) in (
      sym (route_tied (at_route r p u) e.0)
          ∙ and_right (same_addr r e.0.to) (same_prefix p e.0.prefix && same_addr u e.0.from)
          (and_left (same_prefix p e.0.prefix) (same_addr u e.0.from) parts.0),
      parts.1,
    )
missed false u r p e es to none = (
  sym (route_tied (at_route r p u) e.0)
      ∙ and_left (same_addr r e.0.to) (same_prefix p e.0.prefix && same_addr u e.0.from)
      (nat_eq_equiv.symm r.0 e.0.to.0 ∙ to),
  rw to at none,
)

-- a prefix that is none of those received has no route
route_none : (u r : Addr) (p : Prefix) (es : List (RouteKey × Attr)) →
    list_any (same_prefix p) (prefixes_of (received_by r es)) ≡ false → route_from es r p u ≡ None
route_none u r p [] none = refl
route_none u r p (e ∷ es) none =
    let parts = missed (same_addr e.0.to r) u r p e es refl none in
    ap (λ b. cond b (Some e.1) (route_from es r p u)) parts.0 ∙ route_none u r p es parts.1

-- NO CHOICE WHERE NO ROUTE IS KNOWN

none_standing : (site : SiteConf) (p : Prefix) (es : List (RouteKey × Attr)) →
    ((u : Addr) → route_from es site.me p u ≡ None) → (xs : List SiteSession) →
    filter_map (standing_from site p es) xs ≡ []
none_standing site p es none [] = refl
none_standing site p es none (x ∷ xs) =
    ap (λ o. cons_option (standing_over site p x o) (filter_map (standing_from site p es) xs)) (none x.peer)
    ∙ none_standing site p es none xs

pub no_entries : finite.entries (finite.empty {K = Source} {X = Standing} {R = source_cmp}) ≡ []
no_entries = nil_from_length _ (sym (finite.len-entries (finite.empty {K = Source} {X = Standing} {R = source_cmp}))
    ∙ finite.len-empty source_cmp Standing)

none_best : (always : Bool) → best_of (no_standings always) ≡ None
unfolding best_among
none_best always = ap (λ es. best_among always (considered_in es)) no_entries

routes_none : (site : SiteConf) (p : Prefix) (es : List (RouteKey × Attr)) → is_originated site p ≡ false →
    ((u : Addr) → route_from es site.me p u ≡ None) → routes_at site p es ≡ []
routes_none site p es own none = rw own (none_standing site p es none site.sessions)

best_at_none : (site : SiteConf) (p : Prefix) (es : List (RouteKey × Attr)) → is_originated site p ≡ false →
    ((u : Addr) → route_from es site.me p u ≡ None) → best_of (standings site p es) ≡ None
best_at_none site p es own none = ap (λ rs. best_of (added (no_standings site.med_always) rs))
    (routes_none site p es own none) ∙ none_best site.med_always

none_through : {A B C : Type 0} (f : B → Option C) (g : A → B) (o : Option A) → ((a : A) → f (g a) ≡ None) →
    option_and_then f (option_map g o) ≡ None
none_through f g None none = refl
none_through f g (Some a) none = none a

-- the router's part of the configuration, where this node stands at its address
abbrev site_at : Configuration → Addr → Node → SiteConf
site_at c r n = record {
  me = r;
  asn = n.asn;
  cluster = cluster_id c r;
  reflector = is_reflector c r;
  med_always = compares_all_meds c r;
  origins = origins_of c r;
  sessions = sessions_of c r;
  costs = costs_of c r;
}

-- nothing is chosen for a prefix that the router neither originates nor has received
pub best_none : (s : Network) (r : Addr) (p : Prefix) → list_any (same_prefix p) (prefixes_at s r) ≡ false →
    best s r p ≡ None
unfolding best site_of
best_none s r p none =
    let parts = or_parts (list_any (same_prefix p) (origins_of s.conf r))
    (list_any (same_prefix p) (prefixes_of (received_by r s.received)))
    (sym (list_any-append (same_prefix p) (origins_of s.conf r) (prefixes_of (received_by r s.received))) ∙ none) in
    none_through (λ site. best_of (standings site p s.received)) (site_at s.conf r) (node_at s.conf r)
    (λ n. best_at_none (site_at s.conf r n) p s.received parts.0 (λ u. route_none u r p s.received parts.1))

known_by : (known : Bool) (s : Network) (r : Addr) (p : Prefix) → list_any (same_prefix p) (prefixes_at s r) ≡ known →
    is_some (best s r p) ≡ true → list_any (same_prefix p) (prefixes_at s r) ≡ true
known_by true s r p is some = is
known_by false s r p is some = absurd (true≢false (sym some ∙ ap is_some (best_none s r p is)))

-- a prefix with a chosen route is among those of the router
pub chosen_known : (s : Network) (r : Addr) (p : Prefix) → is_some (best s r p) ≡ true →
    list_any (same_prefix p) (in_order (prefixes_at s r)) ≡ true
chosen_known s r p some = any_gathered (same_prefix p) (prefixes_at s r) []
    (known_by (list_any (same_prefix p) (prefixes_at s r)) s r p refl some)
