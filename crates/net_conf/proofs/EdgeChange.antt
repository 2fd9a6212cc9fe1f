-- What a link that is put in changes of the edges and of what they join, and a tree from before that.
use Rattle.std.proofs.Common.{◌≡◌, ℕ, zero, suc, ◌==◌, Bool, true, false, List, ◌∷◌, ◌++◌, Contains, Option, Some, None, IfSome, IsTrue, is_some, option_map, if◌then◌else◌, refl, sym, ap, ◌∙◌, subst, inl, inr, arith}
use Rattle.std.specs.Option.{unwrap_or}
use Rattle.std.specs.Ordering.{is_eq}
use Rattle.std.specs.Cmp.{tied_itself}
use Rattle.std.specs.List.{filter_map, cons_option}
use Rattle.std.specs.List.Sorted.{IsStrictlySortedBy}
use Rattle.std.specs.Map.{keys_of}
use Rattle.std.specs.BTreeMap.{is_at}
use Rattle.std.proofs.lemmas.Bool.{true≢false}
use Rattle.std.proofs.lemmas.Bool.Decides.{nat_tests}
use Rattle.std.proofs.lemmas.List.Elements.{filter_map-append, Contains-append_left, Contains-append_right, Contains-append_cases}
use Rattle.std.proofs.lemmas.Map.Views.{IfSome-lookup_from_All}
use Rattle.std.proofs.lemmas.Option.{none-some, same_Some}
use Rattle.net_prefix.specs.declared.addr.Addr.{Addr}
use Rattle.net_prefix.specs.Address.{addr_cmp}
use Rattle.igp_cost.specs.declared.change.Change.{Change}
use Rattle.igp_cost.specs.declared.change.Change.TheVariants.{Changed}
use Rattle.igp_cost.specs.Metric.{IsMetric}
use Rattle.igp_cost.specs.Walks.{Edges}
use Rattle.igp_cost.specs.Changes.{IsChange}
use Rattle.igp_cost.specs.Laws.{OneEdgeIsAChange, TreeOfIsATree, JoinAllOf}
use Rattle.igp_cost.specs.Topology.{is_node}
use Rattle.igp_cost.specs.Trees.{Reached, IsTreeOf}
use Rattle.net_conf.specs.declared.tables.Ends.{Ends}
use Rattle.net_conf.specs.declared.tables.Link.{Link as TheLink}
use Rattle.net_conf.specs.Configuration.{Configuration, ends_of, ends_cmp, link_between, has_link_up}
use Rattle.net_conf.specs.Costs.{nodes_of, edge_of, edges_of, costs_of}
use Rattle.net_conf.specs.Edits.{with_link}
use Rattle.net_conf.specs.Kept.{IsSound, IsLinked, AreKept, WereTrees, WasTreeOf, metric_of, metric_up, edge_change}
use Rattle.net_conf.proofs.Inserted.{IsSplit, split, found_in}
use Rattle.net_conf.proofs.KeptTrees.{ends_exact, ends_total, kept_is, end_node}
use Rattle.net_conf.proofs.Nodes.{same_node, topology, edge_metrics}

abbrev with_edge : Ends → Option ℕ → Edges → Edges
with_edge e None es = es
with_edge e (Some m) es = (e.low, e.high, m) ∷ es

pub equal_numbers : (m n : ℕ) → (m == n) ≡ true → m ≡ n
equal_numbers m n is = grind (arith, nat_tests)

-- the lists of edges, where one edge is between two that are the same
change_is : OneEdgeIsAChange → (front back : Edges) (e : Ends) (before after : Option ℕ) (change : Change) →
    IfSome before IsMetric → IfSome after IsMetric → edge_change e before after ≡ Some change →
    IsChange change (front ++ with_edge e before back) (front ++ with_edge e after back)
change_is law front back e None None change m n is = absurd (none-some change is)
change_is law front back e None (Some new) change m n is =
    subst (λ x. IsChange x (front ++ back) (front ++ (e.low, e.high, new) ∷ back)) (same_Some _ _ is)
    (law front back e.low e.high new new n).added
change_is law front back e (Some old) None change m n is =
    subst (λ x. IsChange x (front ++ (e.low, e.high, old) ∷ back) (front ++ back)) (same_Some _ _ is)
    (law front back e.low e.high old old m).removed
change_is law front back e (Some old) (Some new) change m n is = by (old == new) is
  where
    by : (same : Bool) → (if same then None else Some (Changed e.low e.high new)) ≡ Some change →
        IsChange change (front ++ (e.low, e.high, old) ∷ back) (front ++ (e.low, e.high, new) ∷ back)
    by true it = absurd (none-some change it)
    by false it = subst (λ x. IsChange x (front ++ (e.low, e.high, old) ∷ back) (front ++ (e.low, e.high, new) ∷ back))
        (same_Some _ _ it) (law front back e.low e.high old new m).changed

no_change_is : (front back : Edges) (e : Ends) (before after : Option ℕ) → edge_change e before after ≡ None →
    front ++ with_edge e before back ≡ front ++ with_edge e after back
no_change_is front back e None None is = refl
no_change_is front back e None (Some new) is = absurd (none-some _ (sym is))
no_change_is front back e (Some old) None is = absurd (none-some _ (sym is))
no_change_is front back e (Some old) (Some new) is = by (old == new) refl is
  where
    by : (same : Bool) → (old == new) ≡ same → (if same then None else Some (Changed e.low e.high new)) ≡ None →
        front ++ (e.low, e.high, old) ∷ back ≡ front ++ (e.low, e.high, new) ∷ back
    by true at it = ap (λ m. front ++ (e.low, e.high, m) ∷ back) (equal_numbers old new at)
    by false at it = absurd (none-some _ (sym it))

-- WHAT IS JOINED

-- an edge has one of its ends among those where the one edge is another, or is there besides
module _ (e : Ends) (back : Edges) where
  joined_behind : (before after : Option ℕ) → (is_some before ≡ true → is_some after ≡ true) → (u v : Addr) (m : ℕ) →
      Contains (with_edge e before back) (u, v, m) → (n : ℕ) × Contains (with_edge e after back) (u, v, n)
  joined_behind None None still u v m h = (m, h)
  joined_behind None (Some new) still u v m h = (m, (suc h.0, omega (arith, h.1), h.2))
  joined_behind (Some old) None still u v m h = absurd (true≢false (sym (still refl)))
  joined_behind (Some old) (Some new) still u v m (zero, lt, h) = (new, (0, omega arith, ap with_new h))
    where
      with_new : Addr × Addr × ℕ → Addr × Addr × ℕ
      with_new edge = (edge.0, edge.1, new)
  joined_behind (Some old) (Some new) still u v m (suc k, lt, h) = (m, (suc k, omega (arith, lt), h))

  module _ (front : Edges) (before after : Option ℕ) (still : is_some before ≡ true → is_some after ≡ true) where
    joined_in : (u v : Addr) (m : ℕ) → Contains (front ++ with_edge e before back) (u, v, m) → (n : ℕ)
        × Contains (front ++ with_edge e after back) (u, v, n)
    joined_in u v m h = elim (Contains-append_cases front (with_edge e before back) (u, v, m) h) [
      | inl early ↦ (m, Contains-append_left front (with_edge e after back) (u, v, m) early)
      | inr late ↦
          let there = joined_behind before after still u v m late in
          (there.0, Contains-append_right front (with_edge e after back) (u, v, there.0) there.1)
    ]

    all_joined : JoinAllOf (front ++ with_edge e before back) (front ++ with_edge e after back)
    all_joined a b m (inl h) = let there = joined_in a b m h in (there.0, inl there.1)
    all_joined a b m (inr h) = let there = joined_in b a m h in (there.0, inr there.1)

-- a link has an edge where it is up
up_is : (link : Option TheLink) → is_some (metric_of link) ≡ unwrap_or (option_map (λ (l : TheLink). l.up) link) false
up_is None = refl
up_is (Some l) = by l.up
  where
    by : (up : Bool) → is_some (if up then Some l.metric else None) ≡ up
    by true = refl
    by false = refl

edge_at : (e : Ends) (link : TheLink) (back : List (Ends × TheLink)) →
    filter_map edge_of ((e, link) ∷ back) ≡ with_edge e (metric_of (Some link)) (filter_map edge_of back)
edge_at e link back = by link.up
  where
    by : (up : Bool) → cons_option (if up then Some (e.low, e.high, link.metric) else None) (filter_map edge_of back)
        ≡ with_edge e (if up then Some link.metric else None) (filter_map edge_of back)
    by true = refl
    by false = refl

metric_holds : (link : Option TheLink) → IfSome link (λ l. IsMetric l.metric) → IfSome (metric_of link) IsMetric
metric_holds None all = tt
metric_holds (Some l) all = by l.up
  where
    by : (up : Bool) → IfSome (if up then Some l.metric else None) IsMetric
    by true = all
    by false = tt

module _ (c : Configuration) (a b : Addr) (link : TheLink)
    (sorted : IsStrictlySortedBy ends_cmp (keys_of c.links)) where
  abbrev e : Ends
  e = ends_of a b

  abbrev parts : IsSplit e link (link_between c a b) c.links (with_link c a b link).links
  parts = split ends_cmp ends_exact e link ends_total c.links sorted

  abbrev front : Edges
  front = filter_map edge_of parts.front

  abbrev back : Edges
  back = filter_map edge_of parts.back

  before_is : (before : Option TheLink) → link_between c a b ≡ before →
      edges_of c ≡ front ++ with_edge e (metric_of before) back
  before_is None is = ap (filter_map edge_of) (parts.was.0 is) ∙ filter_map-append edge_of parts.front parts.back
  before_is (Some l) is = ap (filter_map edge_of) (parts.was.1 l is)
      ∙ filter_map-append edge_of parts.front ((e, l) ∷ parts.back) ∙ ap (λ es. front ++ es) (edge_at e l parts.back)

  after_is : edges_of (with_link c a b link) ≡ front ++ with_edge e (metric_of (Some link)) back
  after_is = ap (filter_map edge_of) parts.is ∙ filter_map-append edge_of parts.front ((e, link) ∷ parts.back)
      ∙ ap (λ es. front ++ es) (edge_at e link parts.back)

  link_after : link_between (with_link c a b link) a b ≡ Some link
  link_after = found_in ends_cmp ends_exact e link ends_total e c.links
      ∙ ap (λ t. if t then Some link else link_between c a b) (itself e)
    where
      itself : (x : Ends) → is_at (ends_cmp x) x ≡ true
      itself x = ap is_eq (tied_itself ends_total x)

  edges_changed : OneEdgeIsAChange → (change : Change) → IfSome (link_between c a b) (λ l. IsMetric l.metric) →
      IsMetric link.metric → edge_change e (metric_up c a b) (metric_of (Some link)) ≡ Some change →
      IsChange change (edges_of c) (edges_of (with_link c a b link))
  edges_changed law change m n is =
      subst (λ es. IsChange change es (edges_of (with_link c a b link))) (sym (before_is (link_between c a b) refl))
      (subst (λ es. IsChange change (front ++ with_edge e (metric_up c a b) back) es) (sym after_is)
      (change_is law front back e (metric_up c a b) (metric_of (Some link)) change (metric_holds (link_between c a b) m)
      (metric_holds (Some link) n) is))

  edges_stay : edge_change e (metric_up c a b) (metric_of (Some link)) ≡ None →
      edges_of (with_link c a b link) ≡ edges_of c
  edges_stay is = after_is ∙ sym (no_change_is front back e (metric_up c a b) (metric_of (Some link)) is)
      ∙ sym (before_is (link_between c a b) refl)

  joined_after : (is_some (metric_up c a b) ≡ true → is_some (metric_of (Some link)) ≡ true) →
      JoinAllOf (edges_of c) (edges_of (with_link c a b link))
  joined_after still =
      subst (λ es. JoinAllOf es (edges_of (with_link c a b link))) (sym (before_is (link_between c a b) refl))
      (subst (λ es. JoinAllOf (front ++ with_edge e (metric_up c a b) back) es) (sym after_is)
      (all_joined e back front (metric_up c a b) (metric_of (Some link)) still))

  joined_before : (is_some (metric_of (Some link)) ≡ true → is_some (metric_up c a b) ≡ true) →
      JoinAllOf (edges_of (with_link c a b link)) (edges_of c)
  joined_before still =
      subst (λ es. JoinAllOf (edges_of (with_link c a b link)) es) (sym (before_is (link_between c a b) refl))
      (subst (λ es. JoinAllOf es (front ++ with_edge e (metric_up c a b) back)) (sym after_is)
      (all_joined e back front (metric_of (Some link)) (metric_up c a b) still))

-- where the link does not go down, the edges join all that they joined, and where it does not come up, no more than
-- they joined
module _ (c d : Configuration) (a b : Addr) (sorted : IsStrictlySortedBy ends_cmp (keys_of c.links))
    (linked : IsLinked c d a b) where
  up_after : is_some (metric_of (Some linked.link)) ≡ has_link_up d a b
  up_after = up_is (Some linked.link)
      ∙ sym (ap (λ x. has_link_up x a b) linked.is
      ∙ ap (λ o. unwrap_or (option_map (λ (l : TheLink). l.up) o) false) (link_after c a b linked.link sorted))

  up_before : is_some (metric_up c a b) ≡ has_link_up c a b
  up_before = up_is (link_between c a b)

  pub edges_join : (has_link_up c a b ≡ true → has_link_up d a b ≡ true) → JoinAllOf (edges_of c) (edges_of d)
  edges_join still =
      subst (λ x. JoinAllOf (edges_of c) (edges_of x)) (sym linked.is)
      (joined_after c a b linked.link sorted (λ up. up_after ∙ still (sym up_before ∙ up)))

  pub edges_joined : (has_link_up d a b ≡ true → has_link_up c a b ≡ true) → JoinAllOf (edges_of d) (edges_of c)
  edges_joined still =
      subst (λ x. JoinAllOf (edges_of x) (edges_of c)) (sym linked.is)
      (joined_before c a b linked.link sorted (λ up. up_before ∙ still (sym up_after ∙ up)))

-- the metrics of two configurations, of which the one is the other with a link, tell what changes of the edges
module _ (c d : Configuration) (a b : Addr) (sound : IsSound c) (after : IsSound d)
    (sorted : IsStrictlySortedBy ends_cmp (keys_of c.links)) (linked : IsLinked c d a b) where
  metric_after : metric_up d a b ≡ metric_of (Some linked.link)
  metric_after = ap (λ x. metric_up x a b) linked.is ∙ ap metric_of (link_after c a b linked.link sorted)

  metric_is : IsMetric linked.link.metric
  metric_is = subst (λ o. IfSome o (λ l. IsMetric l.metric)) (ap (λ x. link_between x a b) linked.is
      ∙ link_after c a b linked.link sorted)
      (IfSome-lookup_from_All (λ l. IsMetric l.metric) (is_at (ends_cmp (ends_of a b))) d.links after.metrics)

  pub changed_by : OneEdgeIsAChange → (change : Change) → edge_change (ends_of a b) (metric_up c a b) (metric_up d a b)
      ≡ Some change → IsChange change (edges_of c) (edges_of d)
  changed_by law change is =
      subst (λ x. IsChange change (edges_of c) (edges_of x)) (sym linked.is)
      (edges_changed c a b linked.link sorted law change
      (IfSome-lookup_from_All (λ l. IsMetric l.metric) (is_at (ends_cmp (ends_of a b))) c.links sound.metrics)
      metric_is
      (ap (edge_change (ends_of a b) (metric_up c a b)) (sym metric_after) ∙ is))

  pub edges_same : edge_change (ends_of a b) (metric_up c a b) (metric_up d a b) ≡ None → edges_of d ≡ edges_of c
  edges_same is = ap edges_of linked.is
      ∙ edges_stay c a b linked.link sorted (ap (edge_change (ends_of a b) (metric_up c a b)) (sym metric_after) ∙ is)

-- the trees that are kept are from before the change
pub were_trees : (c d : Configuration) (a b : Addr) (trees : List (Addr × Reached)) (change : Change) → TreeOfIsATree →
    IsSound c → IsStrictlySortedBy addr_cmp (keys_of c.nodes) → IsLinked c d a b → AreKept c trees →
    IsChange change (edges_of c) (edges_of d) → WereTrees change (nodes_of d) (edges_of d) trees
were_trees c d a b trees change law sound sorted linked kept changes r t found =
    let there = kept_is c r t (sym (kept r) ∙ found) in
    let node : IsTrue (is_node (nodes_of c) r) = same_node c r ∙ end_node c r sound there.0 in
    let tree = law (nodes_of c) (edges_of c) (topology c sound sorted) (edge_metrics c sound) r node in
    let nodes : nodes_of d ≡ nodes_of c = ap nodes_of linked.is in
    subst (λ n. WasTreeOf change n (edges_of d) r t) (sym nodes)
    (subst (λ x. WasTreeOf change (nodes_of c) (edges_of d) r x) (sym there.1)
    (record {
      source = tree.source;
      node = node;
      was = record {
        before = edges_of c;
        changes = changes;
        was = subst (λ s. IsTreeOf (nodes_of c) (edges_of c) s (costs_of c r)) (sym tree.source) tree;
      };
    }))
