-- The trees of those in the AS of an end of a link hang on the edges that lead to them, and those of all others not on
-- the link.
use Rattle.std.proofs.Common.{◌≡◌, ℕ, zero, suc, ◌==◌, Bool, true, false, cond, ◌||◌, List, [], ◌∷◌, ◌++◌, map, filter, fold, take, length, get_or, ◌+◌, ◌<◌, Contains, All, IsTrue, Option, Some, None, option_map, is_some, if◌then◌else◌, nat_le, refl, sym, ap, ◌∙◌, subst, inl, inr, ◌⊎◌, arith}
use Rattle.std.specs.Ordering.{is_eq}
use Rattle.std.specs.List.{AllByRecursion, cons_option}
use Rattle.std.specs.List.Sorted.{IsStrictlySortedBy}
use Rattle.std.specs.Map.{keys_of, lookup}
use Rattle.std.specs.BTreeMap.{is_at}
use Rattle.std.specs.declared.cmp.Ordering.TheVariants.{Less}
use Rattle.std.proofs.lemmas.Bool.{true≢false}
use Rattle.std.proofs.lemmas.Bool.Decides.{nat_tests}
use Rattle.std.proofs.lemmas.List.{take_more}
use Rattle.std.proofs.lemmas.List.Elements.{All-contains, All-filter, All-contains_itself, filter_passes, filter_map-append}
use Rattle.std.proofs.lemmas.Map.Keys.{sorted_head, sorted_tail}
use Rattle.std.proofs.lemmas.Map.Made.{lookup-map_values}
use Rattle.std.proofs.lemmas.Option.{none-some, same_Some}
use Rattle.net_prefix.specs.declared.addr.Addr.{Addr}
use Rattle.net_prefix.specs.Address.{addr_cmp}
use Rattle.igp_cost.specs.declared.change.Change.{Change}
use Rattle.igp_cost.specs.declared.change.Change.TheVariants.{Changed}
use Rattle.igp_cost.specs.Changes.{IsChange, AreEndsOf, ends_of as edge_ends}
use Rattle.igp_cost.specs.Laws.{AreAlikeFrom, AreAlikeOver, OwnEdgesMakeATree, OwnNodesMakeATree, TreeOfIsATree, TreesAreOne}
use Rattle.igp_cost.specs.Metric.{IsMetric}
use Rattle.igp_cost.specs.Topology.{Topology, is_node, IsTopology}
use Rattle.igp_cost.specs.Trees.{Reached, IsTreeOf, tree_of}
use Rattle.igp_cost.specs.Walks.{Nodes, Edges, HasEdge, asn_of, share_as, is_one_number}
use Rattle.net_conf.specs.declared.tables.Ends.{Ends}
use Rattle.net_conf.specs.declared.tables.Node.{Node}
use Rattle.net_conf.specs.Configuration.{Configuration, node_at, as_of, ends_of, ends_session}
use Rattle.net_conf.specs.Concerned.{is_among}
use Rattle.net_conf.specs.Costs.{nodes_of, edges_of, costs_of}
use Rattle.net_conf.specs.Kept.{IsSound, IsLinked, AreKept, tree_kept, metric_up, edge_change}
use Rattle.net_conf.specs.Members.{is_member, members_of, leads_to, edges_to, near, trees_of, AreNear, WereTreesOf}
use Rattle.net_conf.specs.MovedTrees.{MovedTree, AreMoved, owners, tree_after, with_tree, with_source}
use Rattle.net_conf.proofs.Carry.{one_address, found_moved, one_carried, not_owner}
use Rattle.net_conf.proofs.EdgeChange.{equal_numbers}
use Rattle.net_conf.proofs.KeptTrees.{or_right, found_itself, kept_is, end_node}
use Rattle.net_conf.proofs.Near.{found_having, end_near, member_near, node_near, alike_over, tree_near}
use Rattle.net_conf.proofs.Nodes.{same_node, topology, edge_metrics}
use Rattle.net_conf.proofs.TreesAfter.{kept_with_link}

or_left : (t u : Bool) → t ≡ true → (t || u) ≡ true
or_left t u is = ap (λ b. b || u) is

either_way : {P : Type 0} (t u : Bool) → (t || u) ≡ true → (t ≡ true → P) → (u ≡ true → P) → P
either_way true u is first second = first refl
either_way false u is first second = second is

-- WHO IS AMONG THEM

module _ {V : Type 0} (p : V → Bool) where
  abbrev those : List (Addr × V) → List Addr
  those es = map (λ e. e.0) (filter (λ e. p e.1) es)

  found_among : (r : Addr) (es : List (Addr × V)) (v : V) → lookup (is_at (addr_cmp r)) es ≡ Some v → p v ≡ true →
      is_among r (those es) ≡ true
  found_among r [] v found passes = absurd (none-some v found)
  found_among r (e ∷ es) v found passes =
      by (is_at (addr_cmp r) e.0) (p e.1) refl refl (λ there. found_among r es v there passes) found
    where
      by : (t u : Bool) → is_at (addr_cmp r) e.0 ≡ t → p e.1 ≡ u →
          (lookup (is_at (addr_cmp r)) es ≡ Some v → is_among r (those es) ≡ true) →
          cond t (Some e.1) (lookup (is_at (addr_cmp r)) es) ≡ Some v →
          is_among r (map (λ e. e.0) (cond u (e ∷ filter (λ e. p e.1) es) (filter (λ e. p e.1) es))) ≡ true
      by true true at is rest there = or_left (is_at (addr_cmp r) e.0) (is_among r (those es)) at
      by true false at is rest there = absurd (true≢false (sym passes ∙ sym (ap p (same_Some _ _ there)) ∙ is))
      by false true at is rest there = or_right (is_at (addr_cmp r) e.0) (rest there)
      by false false at is rest there = rest there

  none_above : (k : Addr) (es : List (Addr × V)) → AllByRecursion (λ y. addr_cmp k y ≡ Less) (keys_of es) →
      is_among k (those es) ≡ false
  none_above k [] all = refl
  none_above k (e ∷ es) all = by (p e.1) (none_above k es all.1)
    where
      by : (u : Bool) → is_among k (those es) ≡ false →
          is_among k (map (λ e. e.0) (cond u (e ∷ filter (λ e. p e.1) es) (filter (λ e. p e.1) es))) ≡ false
      by true rest = ap (λ o. is_eq o || is_among k (those es)) all.0 ∙ rest
      by false rest = rest

  record IsOne (r : Addr) (es : List (Addr × V)) : Type 0 where
    value : V
    found : lookup (is_at (addr_cmp r)) es ≡ Some value
    passes : p value ≡ true

  among_found : (r : Addr) (es : List (Addr × V)) → IsStrictlySortedBy addr_cmp (keys_of es) →
      is_among r (those es) ≡ true → IsOne r es
  among_found r [] sorted among = absurd (true≢false (sym among))
  among_found r (e ∷ es) sorted among =
      by (is_at (addr_cmp r) e.0) (p e.1) refl refl
      (among_found r es (sorted_tail addr_cmp e.0 (keys_of es) sorted)) among
    where
      later : is_at (addr_cmp r) e.0 ≡ false → IsOne r es → IsOne r (e ∷ es)
      later at one = record {
        value = one.value;
        found = ap (λ t. cond t (Some e.1) (lookup (is_at (addr_cmp r)) es)) at
            ∙ one.found;
        passes = one.passes;
      }

      none : is_at (addr_cmp r) e.0 ≡ true → is_among r (those es) ≡ false
      none at = ap (λ x. is_among x (those es)) (one_address r e.0 at)
          ∙ none_above e.0 es (sorted_head addr_cmp e.0 (keys_of es) sorted)

      by : (t u : Bool) → is_at (addr_cmp r) e.0 ≡ t → p e.1 ≡ u → (is_among r (those es) ≡ true → IsOne r es) →
          is_among r (map (λ e. e.0) (cond u (e ∷ filter (λ e. p e.1) es) (filter (λ e. p e.1) es))) ≡ true →
          IsOne r (e ∷ es)
      by true true at is rest there =
          record { value = e.1; found = ap (λ t. cond t (Some e.1) (lookup (is_at (addr_cmp r)) es)) at; passes = is }
      by true false at is rest there = absurd (true≢false (sym there ∙ none at))
      by false true at is rest there = later at (rest (sym (ap (λ t. t || is_among r (those es)) at) ∙ there))
      by false false at is rest there = later at (rest there)

-- NUMBERS OF ASES

record IsNumber (o p : Option ℕ) : Type 0 where
  number : ℕ
  first : o ≡ Some number
  second : p ≡ Some number

number_of : (o p : Option ℕ) → is_one_number o p ≡ true → IsNumber o p
number_of None p is = absurd (true≢false (sym is))
number_of (Some m) None is = absurd (true≢false (sym is))
number_of (Some m) (Some n) is = record { number = m; first = refl; second = ap Some (sym (equal_numbers m n is)) }

same_itself : (m : ℕ) → (m == m) ≡ true
same_itself m = grind (arith, nat_tests)

one_number : (o p : Option ℕ) (n : ℕ) → o ≡ Some n → p ≡ Some n → is_one_number o p ≡ true
one_number o p n is is' = ap (λ x. is_one_number x p) is ∙ ap (is_one_number (Some n)) is' ∙ same_itself n

module _ (c : Configuration) where
  asn_is : (x : Addr) → asn_of (nodes_of c) x ≡ as_of c x
  asn_is x = lookup-map_values (λ n. n.asn) (is_at (addr_cmp x)) c.nodes

  record IsNodeIn (x : Addr) (m : ℕ) : Type 0 where
    node : Node
    found : node_at c x ≡ Some node
    number : node.asn ≡ m

  node_in : (x : Addr) (m : ℕ) → as_of c x ≡ Some m → IsNodeIn x m
  node_in x m is = by (node_at c x) refl is
    where
      by : (o : Option Node) → node_at c x ≡ o → option_map (λ n. n.asn) o ≡ Some m → IsNodeIn x m
      by None at there = absurd (none-some m there)
      by (Some n) at there = record { node = n; found = at; number = same_Some _ _ there }

  module _ (a b : Addr) (sorted : IsStrictlySortedBy addr_cmp (keys_of c.nodes)) where
    abbrev inside : Addr → Bool
    inside r = is_among r (members_of c a b)

    member_in : (x : Addr) (m : ℕ) → as_of c x ≡ Some m →
        (is_one_number (as_of c a) (Some m) || is_one_number (as_of c b) (Some m)) ≡ true → inside x ≡ true
    member_in x m is either =
        let one = node_in x m is in
        found_among (is_member c a b) x c.nodes one.node one.found
        (ap (λ n. is_one_number (as_of c a) (Some n) || is_one_number (as_of c b) (Some n)) one.number ∙ either)

    -- who shares the AS of one of them is one of them
    pub shares_in : (r x : Addr) → inside r ≡ true → IsTrue (share_as (nodes_of c) r x) → inside x ≡ true
    shares_in r x among share =
        let one = among_found (is_member c a b) r c.nodes sorted among in
        let both = number_of (asn_of (nodes_of c) r) (asn_of (nodes_of c) x) share in
        let is : Some one.value.asn ≡ Some both.number = sym (ap (option_map (λ n. n.asn)) one.found)
        ∙ sym (asn_is r) ∙ both.first in
        member_in x both.number (sym (asn_is x) ∙ both.second)
        (ap (λ n. is_one_number (as_of c a) (Some n) || is_one_number (as_of c b) (Some n)) (sym (same_Some _ _ is))
        ∙ one.passes)

    shares_first : (r : Addr) → IsTrue (share_as (nodes_of c) r a) → inside r ≡ true
    shares_first r share =
        let both = number_of (asn_of (nodes_of c) r) (asn_of (nodes_of c) a) share in
        member_in r both.number (sym (asn_is r)
        ∙ both.first) (or_left _ _ (one_number (as_of c a) (Some both.number) both.number (sym (asn_is a)
        ∙ both.second) refl))

    shares_second : (r : Addr) → IsTrue (share_as (nodes_of c) r b) → inside r ≡ true
    shares_second r share =
        let both = number_of (asn_of (nodes_of c) r) (asn_of (nodes_of c) b) share in
        member_in r both.number (sym (asn_is r)
        ∙ both.first) (or_right _ (one_number (as_of c b) (Some both.number) both.number (sym (asn_is b)
        ∙ both.second) refl))

    itself_in : (x : Addr) → (IsTrue (share_as (nodes_of c) x x) → inside x ≡ true) →
        is_node (nodes_of c) x ≡ true → inside x ≡ true
    itself_in x within node = by (asn_of (nodes_of c) x) refl node
      where
        by : (o : Option ℕ) → asn_of (nodes_of c) x ≡ o → is_some o ≡ true → inside x ≡ true
        by None is some = absurd (true≢false (sym some))
        by (Some n) is some = within (one_number (asn_of (nodes_of c) x) (asn_of (nodes_of c) x) n is is)

    -- each of them is a node
    pub inside_node : (r : Addr) → inside r ≡ true → is_node (nodes_of c) r ≡ true
    inside_node r among = let one = among_found (is_member c a b) r c.nodes sorted among in
        ap is_some (asn_is r ∙ ap (option_map (λ n. n.asn)) one.found)

    pub first_in : is_node (nodes_of c) a ≡ true → inside a ≡ true
    first_in node = itself_in a (shares_first a) node

    pub second_in : is_node (nodes_of c) b ≡ true → inside b ≡ true
    second_in node = itself_in b (shares_second b) node

    end_in : (r x : Addr) → (x ≡ (ends_of a b).low) ⊎ (x ≡ (ends_of a b).high) → IsTrue (share_as (nodes_of c) r x) →
        inside r ≡ true
    end_in r x is share = by (nat_le a.0 b.0) is
      where
        first : x ≡ a → inside r ≡ true
        first same = shares_first r (subst (λ y. IsTrue (share_as (nodes_of c) r y)) same share)

        second : x ≡ b → inside r ≡ true
        second same = shares_second r (subst (λ y. IsTrue (share_as (nodes_of c) r y)) same share)

        pair : Bool → Ends
        pair t = if t then record { low = a; high = b } else record { low = b; high = a }

        by : (t : Bool) → (x ≡ (pair t).low) ⊎ (x ≡ (pair t).high) → inside r ≡ true
        by true (inl same) = first same
        by true (inr same) = second same
        by false (inl same) = second same
        by false (inr same) = first same

-- EDGES

kept_in : {X : Type 0} (p : X → Bool) (xs : List X) (x : X) → Contains xs x → p x ≡ true → Contains (filter p xs) x
kept_in p [] x h is = absurd (omega (arith, h.1))
kept_in p (y ∷ xs) x (zero, lt, same) is = subst (λ t. Contains (cond t (y ∷ filter p xs) (filter p xs)) x)
    (sym (ap p same ∙ is)) (0, omega arith, same)
kept_in p (y ∷ xs) x (suc k, lt, same) is = by (p y) (kept_in p xs x (k, omega (arith, lt), same) is)
  where
    by : (t : Bool) → Contains (filter p xs) x → Contains (cond t (y ∷ filter p xs) (filter p xs)) x
    by true rest = (suc rest.0, omega (arith, rest.1), rest.2)
    by false rest = rest

was_in : {X : Type 0} (p : X → Bool) (xs : List X) (x : X) → Contains (filter p xs) x → Contains xs x
was_in p xs x h = All-contains (Contains xs) (filter p xs) x (All-filter p (Contains xs) xs (All-contains_itself xs)) h

passed : {X : Type 0} (p : X → Bool) (xs : List X) (x : X) → Contains (filter p xs) x → p x ≡ true
passed p xs x h = All-contains (λ y. p y ≡ true) (filter p xs) x (filter_passes p xs) h

or_turned : (t u : Bool) → (t || u) ≡ true → (u || t) ≡ true
or_turned true true is = refl
or_turned true false is = refl
or_turned false true is = refl
or_turned false false is = is

edge_node : (nodes : Nodes) (es : Edges) → IsTopology nodes es → (a b : Addr) (m : ℕ) → HasEdge es a b m →
    is_node nodes a ≡ true
edge_node nodes es top a b m (inl h) =
    (All-contains (λ e. IsTrue (is_node nodes e.0) × IsTrue (is_node nodes e.1)) es (a, b, m) top.ends h).0
edge_node nodes es top a b m (inr h) =
    (All-contains (λ e. IsTrue (is_node nodes e.0) × IsTrue (is_node nodes e.1)) es (b, a, m) top.ends h).1

module _ (rs : List Addr) where
  edge_was : (es : Edges) (a b : Addr) (m : ℕ) → HasEdge (edges_to rs es) a b m → HasEdge es a b m
  edge_was es a b m (inl h) = inl (was_in (leads_to rs) es (a, b, m) h)
  edge_was es a b m (inr h) = inr (was_in (leads_to rs) es (b, a, m) h)

  edge_leads : (es : Edges) (a b : Addr) (m : ℕ) → HasEdge (edges_to rs es) a b m →
      (is_among a rs || is_among b rs) ≡ true
  edge_leads es a b m (inl h) = passed (leads_to rs) es (a, b, m) h
  edge_leads es a b m (inr h) = or_turned (is_among b rs) (is_among a rs) (passed (leads_to rs) es (b, a, m) h)

  edge_is : (es : Edges) (a b : Addr) (m : ℕ) → HasEdge es a b m → (is_among a rs || is_among b rs) ≡ true →
      HasEdge (edges_to rs es) a b m
  edge_is es a b m (inl h) is = inl (kept_in (leads_to rs) es (a, b, m) h is)
  edge_is es a b m (inr h) is =
      inr (kept_in (leads_to rs) es (b, a, m) h (or_turned (is_among a rs) (is_among b rs) is))

  pub same_change : (change : Change) (old new : Edges) → IsChange change old new →
      IsChange change (edges_to rs old) (edges_to rs new)
  same_change change old new changes = record {
    lost = λ a b m h. elim (changes.lost a b m (edge_was old a b m h)) [
      | inl still ↦ inl (edge_is new a b m still (edge_leads old a b m h))
      | inr gone ↦ inr gone
    ];
    gained = λ a b m h. elim (changes.gained a b m (edge_was new a b m h)) [
      | inl still ↦ inl (edge_is old a b m still (edge_leads new a b m h))
      | inr come ↦ inr come
    ];
  }

  pub edges_fit : (nodes : Nodes) (es : Edges) → IsTopology nodes es → IsTopology nodes (edges_to rs es)
  edges_fit nodes es top = record {
    size = top.size;
    ascending = top.ascending;
    ends = All-filter (leads_to rs) (λ e. IsTrue (is_node nodes e.0) × IsTrue (is_node nodes e.1)) es top.ends;
  }

  pub metrics_fit : (es : Edges) → All (λ e. IsMetric e.2) es → All (λ e. IsMetric e.2) (edges_to rs es)
  metrics_fit es all = All-filter (leads_to rs) (λ e. IsMetric e.2) es all

  -- the edges that lead to a whole AS are all of it
  alike_to : (nodes : Nodes) (es : Edges) (r : Addr) →
      ((x : Addr) → IsTrue (share_as nodes r x) → is_among x rs ≡ true) → AreAlikeFrom nodes (edges_to rs es) es r
  alike_to nodes es r all a b m share =
      (edge_was es a b m, λ h. edge_is es a b m h (or_left (is_among a rs) (is_among b rs) (all a share)))

  pub tree_by_own : OwnEdgesMakeATree → (nodes : Nodes) (es : Edges) → All (λ e. IsMetric e.2) es → (r : Addr) →
      ((x : Addr) → IsTrue (share_as nodes r x) → is_among x rs ≡ true) →
      tree_of nodes (edges_to rs es) r ≡ tree_of nodes es r
  tree_by_own law nodes es metrics r all = law nodes (edges_to rs es) es (metrics_fit es metrics) metrics r
      (alike_to nodes es r all)

-- the ends of what changes are those of the link
changed_ends : (e : Ends) (before after : Option ℕ) (change : Change) → edge_change e before after ≡ Some change →
    (e.low, e.high) ≡ edge_ends change
changed_ends e None None change is = absurd (none-some change is)
changed_ends e None (Some m) change is = ap edge_ends (same_Some _ _ is)
changed_ends e (Some old) None change is = ap edge_ends (same_Some _ _ is)
changed_ends e (Some old) (Some m) change is = by (old == m) is
  where
    by : (same : Bool) → (if same then None else Some (Changed e.low e.high m)) ≡ Some change →
        (e.low, e.high) ≡ edge_ends change
    by true it = absurd (none-some change it)
    by false it = ap edge_ends (same_Some _ _ it)

-- the edges of who is not in the AS of an end stay
module _ (c : Configuration) (a b : Addr) (sorted : IsStrictlySortedBy addr_cmp (keys_of c.nodes)) (change : Change)
    (ends : ((ends_of a b).low, (ends_of a b).high) ≡ edge_ends change) (old new : Edges)
    (changes : IsChange change old new) (r : Addr) (out : is_among r (members_of c a b) ≡ false) where
  not_end : (x y : Addr) → AreEndsOf change x y → IsTrue (share_as (nodes_of c) r x) → (P : Type 0) → P
  not_end x y (inl is) share P =
      absurd (true≢false (sym (end_in c a b sorted r x (inl (is.0 ∙ sym (ap (λ p. p.0) ends))) share) ∙ out))
  not_end x y (inr is) share P =
      absurd (true≢false (sym (end_in c a b sorted r x (inr (is.0 ∙ sym (ap (λ p. p.1) ends))) share) ∙ out))

  alike_else : AreAlikeFrom (nodes_of c) old new r
  alike_else x y m share = (over, back)
    where
      over : HasEdge old x y m → HasEdge new x y m
      over h = elim (changes.lost x y m h) [
        | inl still ↦ still
        | inr gone ↦ not_end x y gone.ends share (HasEdge new x y m)
      ]

      back : HasEdge new x y m → HasEdge old x y m
      back h = elim (changes.gained x y m h) [
        | inl still ↦ still
        | inr come ↦ not_end x y come.ends share (HasEdge old x y m)
      ]

  pub tree_stays : OwnEdgesMakeATree → All (λ e. IsMetric e.2) old → All (λ e. IsMetric e.2) new →
      tree_of (nodes_of c) old r ≡ tree_of (nodes_of c) new r
  tree_stays law metrics more = law (nodes_of c) old new metrics more r alike_else

-- THE TREES OF THESE

picked_found : (rs : List Addr) (trees : List (Addr × Reached)) (r : Addr) →
    lookup (is_at (addr_cmp r)) (trees_of rs trees) ≡ cond (is_among r rs) (lookup (is_at (addr_cmp r)) trees) None
picked_found rs trees r = found_having (λ x. lookup (is_at (addr_cmp x)) trees) rs r

-- with the tree of one more, where it has one
one_picked : (rs : List Addr) (trees : List (Addr × Reached)) (r : Addr) →
    trees_of (rs ++ r ∷ []) trees ≡ trees_of rs trees
    ++ cons_option (option_map (λ t. (r, t)) (lookup (is_at (addr_cmp r)) trees)) []
one_picked rs trees r = filter_map-append (λ x. option_map (λ t. (x, t)) (lookup (is_at (addr_cmp x)) trees)) rs
    (r ∷ [])

module _ (graph : Topology) (trees : List (Addr × Reached)) (rs : List Addr) (moved : List MovedTree)
    (are : AreMoved graph (trees_of rs trees) moved) (r : Addr) where
  abbrev carried : Option Reached
  carried = lookup (is_at (addr_cmp r)) (fold with_tree trees (map tree_after moved))

  abbrev was : Option Reached
  was = lookup (is_at (addr_cmp r)) trees

  abbrev new : Reached
  new = tree_of graph.nodes graph.edges r

  -- each of these that has a tree has that of the graph
  pub these_carried : is_among r rs ≡ true → carried ≡ option_map (λ t. new) was
  these_carried among =
      let mine : lookup (is_at (addr_cmp r)) (trees_of rs trees) ≡ was = picked_found rs trees r
      ∙ ap (λ t. cond t was None) among in
      found_moved graph trees moved are.graphs r
      ∙ one_carried new (is_among r (owners moved)) was (λ is. sym (ap is_some mine) ∙ are.there r is) (λ out. sym mine
      ∙ are.others r out ∙ ap (option_map (λ t. new)) mine)

  -- all others have those from before
  pub others_kept : is_among r rs ≡ false → carried ≡ was
  others_kept out = found_moved graph trees moved are.graphs r ∙ by (is_among r (owners moved)) refl
    where
      none : is_some (lookup (is_at (addr_cmp r)) (trees_of rs trees)) ≡ false
      none = ap is_some (picked_found rs trees r ∙ ap (λ t. cond t was None) out)

      by : (t : Bool) → is_among r (owners moved) ≡ t → cond t (Some new) was ≡ was
      by true is = absurd (true≢false (sym (are.there r is) ∙ none))
      by false is = refl

  pub unmoved_kept : is_among r (fold with_source [] (map tree_after moved)) ≡ false → carried ≡ was
  unmoved_kept out = found_moved graph trees moved are.graphs r
      ∙ ap (λ b. cond b (Some new) was) (not_owner moved r out)

pub among_at : (rs : List Addr) (i : ℕ) (d : Addr) → i < length rs → is_among (get_or rs i d) rs ≡ true
among_at [] i d lt = absurd (omega arith)
among_at (q ∷ rs) zero d lt = or_left (is_at (addr_cmp q) q) (is_among q rs) (found_itself q)
among_at (q ∷ rs) (suc i) d lt = or_right (is_at (addr_cmp (get_or rs i d)) q) (among_at rs i d (omega arith))

-- the trees of those so far and of one more
pub one_more : (rs : List Addr) (trees : List (Addr × Reached)) (i : ℕ) (d : Addr) → i < length rs →
    (o : Option Reached) → lookup (is_at (addr_cmp (get_or rs i d))) trees ≡ o →
    trees_of (take (i + 1) rs) trees ≡ trees_of (take i rs) trees
    ++ cons_option (option_map (λ t. (get_or rs i d, t)) o) []
one_more rs trees i d lt o is =
    ap (λ ys. trees_of ys trees) (take_more rs i d lt)
    ∙ one_picked (take i rs) trees (get_or rs i d)
    ∙ ap (λ x. trees_of (take i rs) trees ++ cons_option (option_map (λ t. (get_or rs i d, t)) x) []) is

-- who is in the AS of one of two has its tree in a graph of the edges to these and of the nodes near them
module _ (c : Configuration) (a b : Addr) (rs : List Addr) (is : rs ≡ members_of c a b) (sound : IsSound c)
    (sorted : IsStrictlySortedBy addr_cmp (keys_of c.nodes)) (g : Topology) (are : AreNear c (near rs g.edges) g.nodes)
    (edges : g.edges ≡ edges_to rs (edges_of c)) (r : Addr) (among : is_among r rs ≡ true) where
  node_there : is_node (nodes_of c) r ≡ true
  node_there = inside_node c a b sorted r (sym (ap (is_among r) is) ∙ among)

  pub node_for : is_node g.nodes r ≡ true
  node_for = node_near c rs g.edges g.nodes are r among ∙ node_there

  pub tree_for : TreeOfIsATree → TreesAreOne → OwnEdgesMakeATree → OwnNodesMakeATree →
      tree_of g.nodes g.edges r ≡ costs_of c r
  tree_for law one by_edges by_nodes =
      let top = subst (IsTopology (nodes_of c)) (sym edges)
      (edges_fit rs (nodes_of c) (edges_of c) (topology c sound sorted)) in
      let metrics = subst (All (λ e. IsMetric e.2)) (sym edges) (metrics_fit rs (edges_of c) (edge_metrics c sound)) in
      tree_near c rs g.edges g.nodes are by_nodes law one sound top metrics r among node_there
      ∙ ap (λ es. tree_of (nodes_of c) es r) edges
      ∙ tree_by_own rs by_edges (nodes_of c) (edges_of c) (edge_metrics c sound) r
      (λ x share. ap (is_among x) is ∙ shares_in c a b sorted r x (sym (ap (is_among r) is) ∙ among) share)

-- AN EDIT OF A LINK

module _ (c d : Configuration) (a b : Addr) (rs : List Addr) (is : rs ≡ members_of d a b) (sound : IsSound c)
    (after : IsSound d) (sorted : IsStrictlySortedBy addr_cmp (keys_of c.nodes)) (linked : IsLinked c d a b)
    (own : OwnEdgesMakeATree) where
  same_nodes : nodes_of d ≡ nodes_of c
  same_nodes = ap nodes_of linked.is

  were : rs ≡ members_of c a b
  were = is ∙ ap (λ x. members_of x a b) linked.is

  sorted_then : IsStrictlySortedBy addr_cmp (keys_of d.nodes)
  sorted_then = subst (λ (x : Configuration). IsStrictlySortedBy addr_cmp (keys_of x.nodes)) (sym linked.is) sorted

  whole : (r : Addr) → is_among r rs ≡ true → (x : Addr) → IsTrue (share_as (nodes_of c) r x) → is_among x rs ≡ true
  whole r among x share = ap (is_among x) were ∙ shares_in c a b sorted r x (sym (ap (is_among r) were) ∙ among) share

  module _ (change : Change) (changed : edge_change (ends_of a b) (metric_up c a b) (metric_up d a b) ≡ Some change)
      (changes : IsChange change (edges_of c) (edges_of d)) where
    tree_still : (r : Addr) → is_among r rs ≡ false → costs_of c r ≡ costs_of d r
    tree_still r out =
        tree_stays c a b sorted change (changed_ends (ends_of a b) (metric_up c a b) (metric_up d a b) change changed)
        (edges_of c) (edges_of d) changes r (sym (ap (is_among r) were) ∙ out) own (edge_metrics c sound)
        (edge_metrics d after)
        ∙ ap (λ ns. tree_of ns (edges_of d) r) (sym same_nodes)

    -- an end of an edge that is gone is one of these
    lost_end : (x y : Addr) (m : ℕ) → HasEdge (edges_of c) x y m → AreEndsOf change x y → is_among x rs ≡ true
    lost_end x y m edge ends = ap (is_among x) were
        ∙ itself_in c a b sorted x (end_in c a b sorted x x (which ends))
        (edge_node (nodes_of c) (edges_of c) (topology c sound sorted) x y m edge)
      where
        link : ((ends_of a b).low, (ends_of a b).high) ≡ edge_ends change
        link = changed_ends (ends_of a b) (metric_up c a b) (metric_up d a b) change changed

        which : AreEndsOf change x y → (x ≡ (ends_of a b).low) ⊎ (x ≡ (ends_of a b).high)
        which (inl both) = inl (both.0 ∙ sym (ap (λ p. p.0) link))
        which (inr both) = inr (both.0 ∙ sym (ap (λ p. p.1) link))

    module _ (g : Topology) (are : AreNear d (near rs g.edges) g.nodes)
        (edges : g.edges ≡ edges_to rs (edges_of d)) where
      abbrev before : Edges
      before = edges_to rs (edges_of c)

      changes_to : IsChange change before g.edges
      changes_to = subst (IsChange change before) (sym edges) (same_change rs change (edges_of c) (edges_of d) changes)

      -- so the nodes near the edges of after are near those of before
      was_near : (x y : Addr) (m : ℕ) → HasEdge before x y m → is_among x (near rs g.edges) ≡ true
      was_near x y m h = elim (changes_to.lost x y m h) [
        | inl still ↦ end_near rs g.edges x y m still
        | inr gone ↦ member_near rs g.edges x (lost_end x y m (edge_was rs (edges_of c) x y m h) gone.ends)
      ]

      pub were_members : TreeOfIsATree → OwnNodesMakeATree → (trees : List (Addr × Reached)) → AreKept c trees →
          WereTreesOf rs change g.nodes g.edges trees
      were_members law by_nodes trees kept r t among found =
          let there = kept_is c r t (sym (kept r) ∙ found) in
          let node : is_node (nodes_of c) r ≡ true = same_node c r ∙ end_node c r sound there.0 in
          let metrics = metrics_fit rs (edges_of c) (edge_metrics c sound) in
          let tree = law (nodes_of c) before (edges_fit rs (nodes_of c) (edges_of c) (topology c sound sorted)) metrics
          r node in
          let same : tree_of (nodes_of c) before r ≡ t =
          tree_by_own rs own (nodes_of c) (edges_of c) (edge_metrics c sound) r (whole r among) ∙ sym there.1 in
          let was : IsTreeOf (nodes_of c) before r t =
          subst (λ (x : Reached). IsTreeOf (nodes_of c) before r x) same tree in
          let alike = subst (λ ns. AreAlikeOver ns g.nodes before r) same_nodes
          (alike_over d rs g.edges g.nodes are before was_near r among) in
          let near = by_nodes (nodes_of c) g.nodes before metrics r alike t was in
          record {
            source = was.source;
            node = node_near d rs g.edges g.nodes are r among ∙ ap (λ ns. is_node ns r) same_nodes ∙ node;
            was = record {
              before = before;
              changes = changes_to;
              was = subst (λ s. IsTreeOf g.nodes before s t) (sym was.source) near;
            };
          }

      pub kept_then : TreeOfIsATree → TreesAreOne → OwnNodesMakeATree → (trees made : List (Addr × Reached)) →
          AreKept c trees → ((r : Addr) → is_among r rs ≡ true →
          lookup (is_at (addr_cmp r)) made ≡ option_map (λ t. tree_of g.nodes g.edges r)
          (lookup (is_at (addr_cmp r)) trees)) →
          ((r : Addr) → is_among r rs ≡ false → lookup (is_at (addr_cmp r)) made ≡ lookup (is_at (addr_cmp r)) trees) →
          AreKept d made
      kept_then law one by_nodes trees made kept these others r = by (is_among r rs) refl
        where
          by : (t : Bool) → is_among r rs ≡ t → lookup (is_at (addr_cmp r)) made ≡ tree_kept d r
          by true among =
              these r among
              ∙ ap (λ x. option_map (λ t. x) (lookup (is_at (addr_cmp r)) trees))
              (tree_for d a b rs is after sorted_then g are edges r among law one own by_nodes)
              ∙ ap (option_map (λ t. tree_of (nodes_of d) (edges_of d) r)) (kept r)
              ∙ kept_with_link c d a b linked r
          by false out =
              others r out
              ∙ kept r
              ∙ ap (λ x. if ends_session c r then Some x else None) (tree_still r out)
              ∙ ap (λ x. if ends_session x r then Some (costs_of d r) else None) (sym linked.is)
