-- Edits that are not refused keep a configuration sound.
use Rattle.std.proofs.Common.{◌≡◌, ℕ, ◌+◌, ◌≤◌, ◌<◌, Bool, true, false, not, ◌&&◌, ◌==◌, nat_le, cond, List, [], ◌∷◌, length, get_or, Option, Some, None, IfSome, All, is_some, if◌then◌else◌, refl, sym, ap, subst, arith}
use Rattle.std.specs.declared.cmp.Ordering.{Ordering}
use Rattle.std.specs.declared.cmp.Ordering.TheVariants.{Less, Equal, Greater}
use Rattle.std.specs.Ordering.{match_ordering}
use Rattle.std.specs.List.{AllByRecursion}
use Rattle.std.specs.Map.{keys_of, values_of, lookup}
use Rattle.std.specs.BTreeMap.{is_at, insert_entry}
use Rattle.std.proofs.lemmas.Map.Views.{All-keys-insert_entry, All-values-insert_entry, IfSome-lookup_from_All, Contains-keys_from_lookup}
use Rattle.std.proofs.lemmas.List.Elements.{All-contains}
use Rattle.std.proofs.lemmas.Bool.{true≢false, not-false}
use Rattle.std.proofs.lemmas.Bool.Decides.{nat_tests}
use Rattle.net_prefix.specs.declared.addr.Addr.{Addr}
use Rattle.net_prefix.specs.Address.{addr_cmp}
use Rattle.igp_cost.specs.Metric.{IsMetric}
use Rattle.igp_cost.specs.Limits.{most_nodes}
use Rattle.net_conf.specs.declared.tables.Ends.{Ends}
use Rattle.net_conf.specs.declared.tables.Link.{Link as TheLink}
use Rattle.net_conf.specs.declared.tables.Node.{Node}
use Rattle.net_conf.specs.declared.edit.Edit.{Edit}
use Rattle.net_conf.specs.declared.edit.Edit.TheVariants.{Router, Virtual, Link, Metric, Fail, Mend, Join, Stop, Start, Client, OwnNext, Cluster, MedAlways, Rule as AddRule, Clear, Origin, NoOrigin}
use Rattle.net_conf.specs.declared.tables.PolicySide.TheVariants.{Import, Export}
use Rattle.net_conf.specs.declared.refusal.Refusal.{Refusal}
use Rattle.net_conf.specs.Configuration.{Configuration, has_node, ends_of, ends_cmp, link_between, has_session}
use Rattle.net_conf.specs.Edits.{first_of, tests_of, refusal_of, edited, lacks_node, lacks_either, has_one_end, lacks_session, is_past_limit, with_link, with_link_changed, with_session}
use Rattle.net_conf.specs.Configured.{AreApart, HasEnds}
use Rattle.net_conf.specs.Kept.{IsSound, HasMetric}
use Rattle.net_conf.proofs.KeptTrees.{same_ends}

-- what is found is found still, once an entry is put in
module _ {K X : Type 0} (cmp : K → K → Ordering) (test : K → Bool) (k : K) (v : X) where
  found_before : (t u : Bool) (x : X) (later : Option X) → is_some (cond t (Some x) later) ≡ true →
      is_some (cond u (Some v) (cond t (Some x) later)) ≡ true
  found_before t true x later is = refl
  found_before t false x later is = is

  found_at : (t : Bool) (x : X) (later : Option X) → is_some (cond t (Some x) later) ≡ true →
      is_some (cond t (Some v) later) ≡ true
  found_at true x later is = refl
  found_at false x later is = is

  found_after : (t : Bool) (x : X) (later more : Option X) → (is_some later ≡ true → is_some more ≡ true) →
      is_some (cond t (Some x) later) ≡ true → is_some (cond t (Some x) more) ≡ true
  found_after true x later more still is = refl
  found_after false x later more still is = still is

  found_in : (o : Ordering) (e : K × X) (es more : List (K × X)) →
      (is_some (lookup test es) ≡ true → is_some (lookup test more) ≡ true) → is_some (lookup test (e ∷ es)) ≡ true →
      is_some (lookup test (match_ordering o ((k, v) ∷ e ∷ es) ((e.0, v) ∷ es) (e ∷ more))) ≡ true
  found_in Less e es more still is = found_before (test e.0) (test k) e.1 (lookup test es) is
  found_in Equal e es more still is = found_at (test e.0) e.1 (lookup test es) is
  found_in Greater e es more still is = found_after (test e.0) e.1 (lookup test es) (lookup test more) still is

  pub found_still : (es : List (K × X)) → is_some (lookup test es) ≡ true →
      is_some (lookup test (insert_entry cmp es k v)) ≡ true
  found_still [] is = absurd (true≢false (sym is))
  found_still (e ∷ es) is = found_in (cmp k e.0) e es (insert_entry cmp es k v) (found_still es) is

-- one entry more at most
module _ {K X : Type 0} (cmp : K → K → Ordering) (k : K) (v : X) where
  longer : (o : Ordering) (e : K × X) (es more : List (K × X)) → length more ≤ length es + 1 →
      length (match_ordering o ((k, v) ∷ e ∷ es) ((e.0, v) ∷ es) (e ∷ more)) ≤ length (e ∷ es) + 1
  longer Less e es more le = omega arith
  longer Equal e es more le = omega arith
  longer Greater e es more le = omega (arith, le)

  pub one_longer : (es : List (K × X)) → length (insert_entry cmp es k v) ≤ length es + 1
  one_longer [] = omega arith
  one_longer (e ∷ es) = longer (cmp k e.0) e es (insert_entry cmp es k v) (one_longer es)

some_none : (r : Refusal) → Some r ≡ None → ⊥
some_none r e = cc

passed : (b : Bool) (r : Refusal) (ts : List (Bool × Refusal)) → first_of ((b, r) ∷ ts) ≡ None → (b ≡ false)
    × (first_of ts ≡ None)
passed false r ts none = (refl, none)
passed true r ts none = absurd (some_none r none)

-- each test of a list without a first one fails
pub all_fail : (ts : List (Bool × Refusal)) → first_of ts ≡ None → AllByRecursion (λ t. t.0 ≡ false) ts
all_fail [] none = tt
all_fail ((b, r) ∷ ts) none = let rest = passed b r ts none in (rest.0, all_fail ts rest.1)

pub both_there : (p q : Bool) → not (p && q) ≡ false → (p ≡ true) × (q ≡ true)
both_there true true is = (refl, refl)
both_there true false is = absurd (true≢false is)
both_there false q is = absurd (true≢false is)

below_limit : (n : ℕ) → nat_le most_nodes n ≡ false → n < most_nodes
below_limit n is = grind (arith, nat_tests)

-- the ends, the lower first, are the two
ends_there : (c : Configuration) (a b : Addr) → has_node c a ≡ true → has_node c b ≡ true → HasEnds c (ends_of a b)
ends_there c a b first second = by (nat_le a.0 b.0)
  where
    by : (le : Bool) → HasEnds c (if le then record { low = a; high = b } else record { low = b; high = a })
    by true = (first, second)
    by false = (second, first)

-- the ends of two that differ do
ends_apart : (a b : Addr) → (a.0 == b.0) ≡ false → AreApart (ends_of a b)
ends_apart a b differ = by (nat_le a.0 b.0) refl
  where
    by : (le : Bool) → nat_le a.0 b.0 ≡ le →
        AreApart (if le then record { low = a; high = b } else record { low = b; high = a })
    by true is = grind (arith, nat_tests)
    by false is = grind (arith, nat_tests)

-- what holds of the keys holds of one that is found
of_found : {X : Type 0} (a b : Addr) (es : List (Ends × X)) → All AreApart (keys_of es) →
    is_some (lookup (is_at (ends_cmp (ends_of a b))) es) ≡ true → AreApart (ends_of a b)
of_found a b es all found = All-contains AreApart (keys_of es) (ends_of a b) all
    (Contains-keys_from_lookup {eq = λ x. is_at (ends_cmp x)} same_ends (ends_of a b) es found)

module _ (c : Configuration) (sound : IsSound c) where
  -- a node more
  with_node : (a : Addr) (n : Node) → length c.nodes < most_nodes →
      IsSound (record c { nodes = insert_entry addr_cmp c.nodes a n })
  with_node a n room = record {
    size = omega (arith, one_longer addr_cmp a n c.nodes, room);
    links = λ k d lt. still (get_or (keys_of c.links) k d) (sound.links k d lt);
    sessions = λ k d lt. still (get_or (keys_of c.sessions) k d) (sound.sessions k d lt);
    links_apart = sound.links_apart;
    sessions_apart = sound.sessions_apart;
    metrics = sound.metrics;
  }
    where
      still : (e : Ends) → HasEnds c e → HasEnds (record c { nodes = insert_entry addr_cmp c.nodes a n }) e
      still e has = (
        found_still addr_cmp (is_at (addr_cmp e.low)) a n c.nodes has.0,
        found_still addr_cmp (is_at (addr_cmp e.high)) a n c.nodes has.1,
      )

  linked : (a b : Addr) (link : TheLink) → HasEnds c (ends_of a b) → AreApart (ends_of a b) → IsMetric link.metric →
      IsSound (with_link c a b link)
  linked a b link has apart metric = record {
    size = sound.size;
    links = All-keys-insert_entry ends_cmp (ends_of a b) link (HasEnds c) c.links sound.links has;
    sessions = sound.sessions;
    links_apart = All-keys-insert_entry ends_cmp (ends_of a b) link AreApart c.links sound.links_apart apart;
    sessions_apart = sound.sessions_apart;
    metrics = All-values-insert_entry ends_cmp (ends_of a b) link (λ l. IsMetric l.metric) c.links sound.metrics metric;
  }

  -- the metric of a link that is there
  metric_there : (a b : Addr) (link : TheLink) → link_between c a b ≡ Some link → IsMetric link.metric
  metric_there a b link is = subst (λ o. IfSome o (λ l. IsMetric l.metric)) is
      (IfSome-lookup_from_All (λ l. IsMetric l.metric) (is_at (ends_cmp (ends_of a b))) c.links sound.metrics)

  changed : (a b : Addr) (change : TheLink → TheLink) (link : Option TheLink) → link_between c a b ≡ link →
      HasEnds c (ends_of a b) → ((l : TheLink) → IsMetric l.metric → IsMetric (change l).metric) →
      IsSound (with_link_changed c a b change link)
  changed a b change None is has metric = sound
  changed a b change (Some link) is has metric =
      linked a b (change link) has (of_found a b c.links sound.links_apart (ap is_some is))
      (metric link (metric_there a b link is))

  joined : (a b : Addr) (enabled : Bool) → HasEnds c (ends_of a b) → AreApart (ends_of a b) →
      IsSound (with_session c a b enabled)
  joined a b enabled has apart = record {
    size = sound.size;
    links = sound.links;
    sessions = All-keys-insert_entry ends_cmp (ends_of a b) enabled (HasEnds c) c.sessions sound.sessions has;
    links_apart = sound.links_apart;
    sessions_apart = All-keys-insert_entry ends_cmp (ends_of a b) enabled AreApart c.sessions
        sound.sessions_apart apart;
    metrics = sound.metrics;
  }

  session_apart : (a b : Addr) → not (has_session c a b) ≡ false → AreApart (ends_of a b)
  session_apart a b there = of_found a b c.sessions sound.sessions_apart (not-false (has_session c a b) there)

  ends : (a b : Addr) → lacks_either c a b ≡ false → HasEnds c (ends_of a b)
  ends a b is = let there = both_there (has_node c a) (has_node c b) is in ends_there c a b there.0 there.1

  same_tables : (d : Configuration) → d.nodes ≡ c.nodes → d.links ≡ c.links → d.sessions ≡ c.sessions → IsSound d
  same_tables d nodes links sessions = record {
    size = subst (λ n. length n ≤ most_nodes) (sym nodes) sound.size;
    links = subst (λ n. All (λ e. (is_some (lookup (is_at (addr_cmp e.low)) n) ≡ true)
        × (is_some (lookup (is_at (addr_cmp e.high)) n) ≡ true)) (keys_of d.links)) (sym nodes)
        (subst (λ l. All (HasEnds c) (keys_of l)) (sym links) sound.links);
    sessions = subst (λ n. All (λ e. (is_some (lookup (is_at (addr_cmp e.low)) n) ≡ true)
        × (is_some (lookup (is_at (addr_cmp e.high)) n) ≡ true)) (keys_of d.sessions)) (sym nodes)
        (subst (λ l. All (HasEnds c) (keys_of l)) (sym sessions) sound.sessions);
    links_apart = subst (λ l. All AreApart (keys_of l)) (sym links) sound.links_apart;
    sessions_apart = subst (λ l. All AreApart (keys_of l)) (sym sessions) sound.sessions_apart;
    metrics = subst (λ l. All (λ l. IsMetric l.metric) (values_of l)) (sym links) sound.metrics;
  }

  -- an edit between two that are there and differ, of a session that is there, and that passes no limit
  pub sound_edited : (e : Edit) → HasMetric e → lacks_node c e ≡ false → has_one_end e ≡ false →
      lacks_session c e ≡ false → is_past_limit c e ≡ false → IsSound (edited c e)
  sound_edited (Router a n) metric there two session room = with_node a _ (below_limit (length c.nodes) room)
  sound_edited (Virtual a n) metric there two session room = with_node a _ (below_limit (length c.nodes) room)
  sound_edited (Link a b m) metric there two session room = linked a b _ (ends a b there) (ends_apart a b two) metric
  sound_edited (Metric a b m) metric there two session room =
      changed a b _ (link_between c a b) refl (ends a b there) (λ l was. metric)
  sound_edited (Fail a b) metric there two session room =
      changed a b _ (link_between c a b) refl (ends a b there) (λ l was. was)
  sound_edited (Mend a b) metric there two session room =
      changed a b _ (link_between c a b) refl (ends a b there) (λ l was. was)
  sound_edited (Join a b) metric there two session room = joined a b true (ends a b there) (ends_apart a b two)
  sound_edited (Stop a b) metric there two session room = joined a b false (ends a b there) (session_apart a b session)
  sound_edited (Start a b) metric there two session room = joined a b true (ends a b there) (session_apart a b session)
  sound_edited (Client a b on) metric there two session room = same_tables _ refl refl refl
  sound_edited (OwnNext a b on) metric there two session room = same_tables _ refl refl refl
  sound_edited (Cluster a id) metric there two session room = same_tables _ refl refl refl
  sound_edited (MedAlways a on) metric there two session room = same_tables _ refl refl refl
  sound_edited (AddRule a b Import rule) metric there two session room = same_tables _ refl refl refl
  sound_edited (AddRule a b Export rule) metric there two session room = same_tables _ refl refl refl
  sound_edited (Clear a b Import) metric there two session room = same_tables _ refl refl refl
  sound_edited (Clear a b Export) metric there two session room = same_tables _ refl refl refl
  sound_edited (Origin a p) metric there two session room = same_tables _ refl refl refl
  sound_edited (NoOrigin a p) metric there two session room = same_tables _ refl refl refl

pub within_limits : (c : Configuration) (e : Edit) → refusal_of c e ≡ None → is_past_limit c e ≡ false
unfolding refusal_of
within_limits c e none = (all_fail (tests_of c e) none).1.1.1.1.1.1.1.1.1.1.1.1.1.1.0

pub sound_after : (c : Configuration) (e : Edit) → IsSound c → HasMetric e → refusal_of c e ≡ None →
    IsSound (edited c e)
unfolding refusal_of
sound_after c e sound metric none =
    let all = all_fail (tests_of c e) none in
    sound_edited c sound e metric all.0 all.1.1.0 all.1.1.1.1.1.1.1.1.0 all.1.1.1.1.1.1.1.1.1.1.1.1.1.1.0
