-- What a router considers: each route its source's own, one of them its choice, and that its own or one that it has
-- received.
use Rattle.std.proofs.Common.{◌≡◌, ◌⊎◌, inl, inr, ⊎_elim, ℕ, zero, suc, ◌<◌, ◌==◌, ◌||◌, nat_eq, slice_index_or, length, unwrap_or, Bool, true, false, not, cond, List, [], ◌∷◌, filter, Contains, Option, Some, None, option_map, if◌then◌else◌, option_and_then, refl, sym, ap, subst, ◌∙◌, arith}
use Rattle.std.specs.FinMap as finite
use Rattle.std.specs.Cmp.{unsigned_Decides}
use Rattle.std.specs.List.{AllByRecursion, list_any, filter_map, cons_option}
use Rattle.std.specs.Ordering.{eq_by_cmp}
use Rattle.std.proofs.lemmas.Bool.{true≢false, false_from_ne_true, or_left}
use Rattle.std.proofs.lemmas.Option.{none-some, same_Some}
use Rattle.net_prefix.specs.declared.addr.Addr.{Addr}
use Rattle.net_prefix.specs.Prefix.{Prefix}
use Rattle.path_attr.specs.declared.attr.Attr.{Attr}
use Rattle.path_attr.specs.declared.path.Segment.{Segment}
use Rattle.path_attr.specs.declared.path.Segment.TheVariants.{Seq as Sequence, Set}
use Rattle.path_attr.specs.Number.{same_number}
use Rattle.path_attr.specs.Path.{neighbour, holds}
use Rattle.route_policy.specs.declared.rule.Action.{Action}
use Rattle.route_policy.specs.Judging.{judged}
use Rattle.net_conf.specs.declared.site.SiteConf.{SiteConf}
use Rattle.net_conf.specs.declared.site.SiteSession.{SiteSession}
use Rattle.net_conf.specs.declared.tables.Node.{Node}
use Rattle.net_conf.specs.Configuration.{Configuration, node_at}
use Rattle.net_conf.specs.Costs.{is_up}
use Rattle.net_conf.specs.Sites.{site_at, site_of, session_of, peers_of}
use Rattle.route_select.specs.declared.candidate.Source.{Source}
use Rattle.route_select.specs.declared.candidate.Source.TheVariants.{Own, Peer as FromPeer}
use Rattle.route_select.specs.declared.candidate.Candidate.{Candidate}
use Rattle.route_select.specs.declared.candidate.Reason.{Reason}
use Rattle.route_select.specs.declared.candidate.Reason.TheVariants.{Loop}
use Rattle.route_select.specs.declared.candidate.Standing.{Standing}
use Rattle.route_select.specs.declared.candidate.Standing.TheVariants.{Excluded, Considered}
use Rattle.route_select.specs.declared.filter.Filter.{Filter}
use Rattle.route_select.specs.Leaders.{In}
use Rattle.route_select.specs.Selection.{source_cmp, Standings, no_standings, with_standing, standing_from, IsFrom, considered, filters, left_by_all, best_of, is_beaten}
use Rattle.route_select.specs.Laws.{AreFromTheirSources}
use Rattle.route_select.proofs.EntryLemmas.{of_T, same_source, source_total, find_considered, each_from}
use Rattle.route_select.proofs.Sole.{one_is_left, none_is_left}
use Rattle.reference_machine.specs.declared.rows.RouteKey.{RouteKey}
use Rattle.reference_machine.specs.Network.{Network}
use Rattle.reference_machine.specs.Decision.{own_candidate, own_standings, is_originated, exclusion, peer_candidate, standing_by, peer_standing, route_from, standing_over, standing_from as stands_over, routes_at, added, standings, best}
use Rattle.session_law.specs.RouteLaws.{NeighbourLaw, EachHasItsSource, OneIsChosen}
use Rattle.reference_machine.proofs.Entries.{equal_from}
use Rattle.session_law.proofs.Lists.{everywhere, each_joined, each_mapped}

-- WHAT HOLDS OF EACH STANDING

module _ (Q : Source → Standing → Type 0) where
  abbrev EachStanding : Standings → Type 0
  EachStanding m = (q : Source) (w : Standing) → standing_from m q ≡ Some w → Q q w

  abbrev Stands : Source × Standing → Type 0
  Stands e = Q e.0 e.1

  put_by : (b : Bool) (k q : Source) (v w : Standing) (old : Option Standing) → eq_by_cmp source_cmp q k ≡ b → Q k v →
      (old ≡ Some w → Q q w) → cond b (Some v) old ≡ Some w → Q q w
  put_by true k q v w old tied new was is =
      subst (Q q) (same_Some v w is) (subst (λ x. Q x v) (sym (same_source q k (equal_from (source_cmp q k) tied))) new)
  put_by false k q v w old tied new was is = was is

  put_each : (m : Standings) (k : Source) (v : Standing) → EachStanding m → Q k v → EachStanding (with_standing k v m)
  put_each m k v each new q w is = put_by (eq_by_cmp source_cmp q k) k q v w (standing_from m q) refl new (each q w)
      (sym (finite.get-insert source_total m.known k v q) ∙ is)

  added_each : (es : List (Source × Standing)) (m : Standings) → EachStanding m → AllByRecursion Stands es →
      EachStanding (added m es)
  added_each [] m old each = old
  added_each (e ∷ es) m old each = added_each es (with_standing e.0 e.1 m) (put_each m e.0 e.1 old each.0) each.1

  none_each : (always : Bool) → EachStanding (no_standings always)
  none_each always q w is = absurd (none-some w (sym (finite.get-empty source_cmp q) ∙ is))

  module _ (site : SiteConf) (p : Prefix) (es : List (RouteKey × Attr)) where
    -- it holds of what was received over the session, while that is up
    abbrev OverSession : SiteSession → Type 0
    OverSession x = (attr : Attr) → route_from es site.me p x.peer ≡ Some attr → x.up ≡ true →
        Q (FromPeer x.peer) (peer_standing site p x attr)

    own_each : (b : Bool) → Q Own (Considered (own_candidate site.me)) →
        AllByRecursion Stands (if b then (Own, Considered (own_candidate site.me)) ∷ [] else [])
    own_each true own = (own, tt)
    own_each false own = tt

    over_by : (b : Bool) (x : SiteSession) (attr : Attr) (others : List (Source × Standing)) →
        (b ≡ true → Q (FromPeer x.peer) (peer_standing site p x attr)) → AllByRecursion Stands others →
        AllByRecursion Stands (cons_option (if b then Some (FromPeer x.peer, peer_standing site p x attr)
        else None) others)
    over_by true x attr others here each = (here refl, each)
    over_by false x attr others here each = each

    over_each : (o : Option Attr) (x : SiteSession) (others : List (Source × Standing)) →
        ((attr : Attr) → o ≡ Some attr → x.up ≡ true → Q (FromPeer x.peer) (peer_standing site p x attr)) →
        AllByRecursion Stands others → AllByRecursion Stands (cons_option (standing_over site p x o) others)
    over_each None x others here each = each
    over_each (Some attr) x others here each = over_by x.up x attr others (here attr refl) each

    peers_each : (xs : List SiteSession) → AllByRecursion OverSession xs →
        AllByRecursion Stands (filter_map (stands_over site p es) xs)
    peers_each [] h = tt
    peers_each (x ∷ xs) h = over_each (route_from es site.me p x.peer) x (filter_map (stands_over site p es) xs) h.0
        (peers_each xs h.1)

    -- and of the router's own: so it holds of each standing
    pub standings_each : Q Own (Considered (own_candidate site.me)) → AllByRecursion OverSession site.sessions →
        EachStanding (standings site p es)
    standings_each own peers =
        added_each (routes_at site p es) (no_standings site.med_always) (none_each site.med_always)
        (each_joined Stands (own_standings site p) (filter_map (stands_over site p es) site.sessions)
        (own_each (is_originated site p) own) (peers_each site.sessions peers))

-- EACH SOURCE'S OWN

from_by : (o : Option Reason) (site : SiteConf) (x : SiteSession) (action : Action) (attr : Attr) →
    IsFrom (FromPeer x.peer) (standing_by o (peer_candidate site x action attr))
from_by None site x action attr = refl
from_by (Some reason) site x action attr = tt

-- each route that is considered is its source's own
pub each_has_its_source : EachHasItsSource
each_has_its_source site p es =
    standings_each IsFrom site p es refl
    (everywhere (OverSession IsFrom site p es)
    (λ x attr is up. from_by (exclusion site (judged x.policy_in p attr) attr) site x
    (judged x.policy_in p attr) attr) site.sessions)

-- ONE CHOICE

in_filter : (test : Candidate → Bool) (ms : List Candidate) (m : Candidate) → In m (filter test ms) → In m ms
in_filter test [] m within = absurd within
in_filter test (x ∷ xs) m within =
    elim (test x) as (λ b. In m (cond b (x ∷ filter test xs) (filter test xs)) → (x ≡ m) ⊎ In m xs) [
      | true ↦ λ i. ⊎_elim (λ is. inl is) (λ later. inr (in_filter test xs m later)) i
      | false ↦ λ i. inr (in_filter test xs m i)
    ] within

in_left : (always : Bool) (ks : List Filter) (ms : List Candidate) (m : Candidate) →
    In m (left_by_all always ks ms) → In m ms
in_left always [] ms m within = within
in_left always (k ∷ ks) ms m within = in_filter (λ n. not (is_beaten always k ms n)) ms m (in_left always ks _ m within)

-- what is considered is what its source has
stands : (m : Standings) → AreFromTheirSources m → (b : Candidate) → In b (considered m) →
    standing_from m b.source ≡ Some (Considered b)
stands m own b within =
    let es = finite.entries m.known in
    let sorted = of_T _ (finite.entries_sorted m.known) in
    finite.get-entries m.known b.source
    ∙ find_considered es b sorted (each_from es sorted (λ q w is. own q w (finite.get-entries m.known q ∙ is)))
    within

-- and so is the best
best_stands : (m : Standings) → AreFromTheirSources m → (b : Candidate) → best_of m ≡ Some b →
    standing_from m b.source ≡ Some (Considered b)
best_stands m own b best =
    stands m own b (in_left m.med_always filters (considered m) b
    (subst (In b) (sym (one_is_left m own b best)) (inl refl)))

compares_the_same : (es : List (Source × Standing)) (m : Standings) → (added m es).med_always ≡ m.med_always
compares_the_same [] m = refl
compares_the_same (e ∷ es) m = compares_the_same es (with_standing e.0 e.1 m)

none_within : (ms : List Candidate) (m : Candidate) → ms ≡ [] → Contains ms m → ⊥
none_within ms m none within = let nowhere = subst (λ xs. Contains xs m) none within in omega (arith, nowhere.1)

some_best : (o : Option Candidate) (ms : Standings) (m : Candidate) → best_of ms ≡ o → Contains (considered ms) m →
    (b : Candidate) × (best_of ms ≡ Some b)
some_best None ms m is within = absurd (none_within (considered ms) m ((none_is_left ms).0 is) within)
some_best (Some b) ms m is within = (b, is)

-- what a router chooses, by its site
chosen_at : (s : Network) (r : Addr) (p : Prefix) (site : SiteConf) → site_of s.conf r ≡ Some site →
    best s r p ≡ best_of (standings site p s.received)
unfolding best
chosen_at s r p site is = ap (option_and_then (λ x. best_of (standings x p s.received))) is

pub one_is_chosen : OneIsChosen
one_is_chosen s r p site is m within =
    let ms = standings site p s.received in
    let some = some_best (best_of ms) ms m refl within in
    let same : ms.med_always ≡ site.med_always =
    compares_the_same (routes_at site p s.received) (no_standings site.med_always) in (
      some.0,
      chosen_at s r p site is ∙ some.1,
      ap (λ always. left_by_all always filters (considered ms)) (sym same)
          ∙ one_is_left ms (each_has_its_source site p s.received) some.0 some.1,
    )

-- THE NEIGHBOURING AS

looped_by : (looped : Bool) (o : Option Reason) → (if looped then Some Loop else o) ≡ None → looped ≡ false
looped_by true o none = cc
looped_by false o none = refl

-- a route that no test excludes does not hold the router's AS
pub no_loop : (site : SiteConf) (action : Action) (attr : Attr) → exclusion site action attr ≡ None →
    holds site.asn attr.path ≡ false
no_loop site action attr passed = looped_by (holds site.asn attr.path) _ passed

first_held : (n : ℕ) (ss : List Segment) → neighbour ss ≡ Some n → holds n ss ≡ true
first_held n [] is = absurd (none-some n is)
first_held n (Sequence [] ∷ ss) is = absurd (none-some n is)
first_held n (Sequence (k ∷ ks) ∷ ss) is = or_left (nat_eq n k || list_any (nat_eq n) ks) (holds n ss)
    (or_left (nat_eq n k) (list_any (nat_eq n) ks) ((unsigned_Decides n k).1 (sym (same_Some k n is))))
first_held n (Set ns ∷ ss) is = absurd (none-some n is)

-- the neighbouring AS of what is considered is not the router's own
abbrev NotOwn : SiteConf → Source → Standing → Type 0
NotOwn site q (Excluded reason) = Unit {0}
NotOwn site q (Considered m) = neighbour m.attr.path ≡ Some site.asn → ⊥

not_own_by : (o : Option Reason) (site : SiteConf) (x : SiteSession) (action : Action) (attr : Attr) →
    exclusion site action attr ≡ o → NotOwn site (FromPeer x.peer) (standing_by o (peer_candidate site x action attr))
not_own_by None site x action attr passed = λ first. true≢false (sym (first_held site.asn attr.path first)
    ∙ no_loop site action attr passed)
not_own_by (Some reason) site x action attr passed = tt

each_not_own : (site : SiteConf) (p : Prefix) (es : List (RouteKey × Attr)) (q : Source) (w : Standing) →
    standing_from (standings site p es) q ≡ Some w → NotOwn site q w
each_not_own site p es =
    standings_each (NotOwn site) site p es (λ first. none-some site.asn first)
    (everywhere (OverSession (NotOwn site) site p es)
    (λ x attr is up. not_own_by (exclusion site (judged x.policy_in p attr) attr) site x
    (judged x.policy_in p attr) attr refl) site.sessions)

within_in : (ms : List Candidate) (m : Candidate) (k : ℕ) → k < length ms → slice_index_or ms k m ≡ m → In m ms
within_in [] m k low at = absurd (omega arith)
within_in (x ∷ xs) m zero low at = inl at
within_in (x ∷ xs) m (suc k) low at = inr (within_in xs m k (omega arith) at)

considered_not_own : (site : SiteConf) (p : Prefix) (es : List (RouteKey × Attr)) (m : Candidate) →
    Contains (considered (standings site p es)) m → neighbour m.attr.path ≡ Some site.asn → ⊥
considered_not_own site p es m within =
    each_not_own site p es m.source (Considered m) (stands (standings site p es) (each_has_its_source site p es) m
    (within_in (considered (standings site p es)) m within.0 within.1 within.2))

same_neighbours : (asn : ℕ) (m n : Option ℕ) → (m ≡ Some asn → ⊥) → (n ≡ Some asn → ⊥) →
    (unwrap_or m asn == unwrap_or n asn) ≡ same_number m n
same_neighbours asn None None h g = (unsigned_Decides asn asn).1 refl
same_neighbours asn None (Some k) h g =
    false_from_ne_true (asn == k) (λ same. g (ap Some (sym ((unsigned_Decides asn k).0 same))))
same_neighbours asn (Some k) None h g =
    false_from_ne_true (k == asn) (λ same. h (ap Some ((unsigned_Decides k asn).0 same)))
same_neighbours asn (Some k) (Some j) h g = refl

pub neighbour_law : NeighbourLaw
neighbour_law site p es m n m_within n_within = same_neighbours site.asn (neighbour m.attr.path) (neighbour n.attr.path)
    (considered_not_own site p es m m_within) (considered_not_own site p es n n_within)

-- WHERE THE CHOICE COMES FROM

-- a route that the router has received over a session that is up, and that no test excludes
pub record IsReceived (c : Configuration) (r : Addr) (n : Node) (p : Prefix) (es : List (RouteKey × Attr))
    (b : Candidate) : Type 0 where
  pub peer : Addr
  pub attr : Attr
  pub action : Action
  pub up : is_up c r peer ≡ true
  pub route : route_from es r p peer ≡ Some attr
  pub passed : exclusion (site_at c r n) action attr ≡ None
  pub is : b ≡ peer_candidate (site_at c r n) (session_of c r peer) action attr

module _ (c : Configuration) (r : Addr) (n : Node) (p : Prefix) (es : List (RouteKey × Attr)) where
  -- the router's own route, or one that it has received
  abbrev pub OwnOrReceived : Candidate → Type 0
  OwnOrReceived b = (b ≡ own_candidate r) ⊎ IsReceived c r n p es b

  abbrev Known : Source → Standing → Type 0
  Known q (Excluded reason) = Unit {0}
  Known q (Considered b) = OwnOrReceived b

  known_by : (o : Option Reason) (u : Addr) (action : Action) (attr : Attr) →
      exclusion (site_at c r n) action attr ≡ o → route_from es r p u ≡ Some attr → is_up c r u ≡ true →
      Known (FromPeer u) (standing_by o (peer_candidate (site_at c r n) (session_of c r u) action attr))
  known_by None u action attr passed route up =
      inr (record { peer = u; attr = attr; action = action; up = up; route = route; passed = passed; is = refl })
  known_by (Some reason) u action attr passed route up = tt

  known_over : (u : Addr) → OverSession Known (site_at c r n) p es (session_of c r u)
  known_over u attr route up =
      let action = judged (session_of c r u).policy_in p attr in
      known_by (exclusion (site_at c r n) action attr) u action attr refl route up

  each_known : (q : Source) (w : Standing) → standing_from (standings (site_at c r n) p es) q ≡ Some w → Known q w
  each_known =
      standings_each Known (site_at c r n) p es (inl refl)
      (each_mapped (λ u. Unit {0}) (OverSession Known (site_at c r n) p es) (session_of c r) (λ u _. known_over u)
      (peers_of c r) (everywhere (λ u. Unit {0}) (λ u. tt) (peers_of c r)))

  best_known : (b : Candidate) → best_of (standings (site_at c r n) p es) ≡ Some b → OwnOrReceived b
  best_known b is = each_known b.source (Considered b)
      (best_stands (standings (site_at c r n) p es) (each_has_its_source (site_at c r n) p es) b is)

-- the router's choice is its own route, or one that it has received
pub choice_known : (s : Network) (r : Addr) (p : Prefix) (n : Node) (b : Candidate) → node_at s.conf r ≡ Some n →
    best s r p ≡ Some b → OwnOrReceived s.conf r n p s.received b
unfolding site_of
choice_known s r p n b here is =
    best_known s.conf r n p s.received b
    (sym (chosen_at s r p (site_at s.conf r n) (ap (option_map (λ x. site_at s.conf r x)) here)) ∙ is)
