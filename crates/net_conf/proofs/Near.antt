-- The nodes near some: what is said of them is what the configuration says, so their trees are the same.
use Rattle.std.proofs.Common.{◌≡◌, ℕ, ◌≤◌, Bool, true, false, cond, ◌||◌, List, [], ◌∷◌, ◌++◌, map, filter, length, get_or, Contains, All, Option, Some, None, option_map, is_some, if◌then◌else◌, refl, sym, ap, ◌∙◌, subst, inl, inr, arith}
use Rattle.std.specs.Cmp.{nat_eq_equiv, on_equiv, unsigned_ties}
use Rattle.std.specs.List.{dedup, filter_map, cons_option}
use Rattle.std.specs.List.Sorted.{IsSorted, IsPermutation, IsStrictlySortedBy}
use Rattle.std.specs.Map.{keys_of, lookup}
use Rattle.std.specs.BTreeMap.{is_at}
use Rattle.std.proofs.lemmas.Bool.{true≢false}
use Rattle.std.proofs.lemmas.List.{length-map, get_or-map}
use Rattle.std.proofs.lemmas.List.Elements.{All-filter, Contains-get_or, Contains-append_left, Contains-append_right}
use Rattle.std.proofs.lemmas.List.Folds.{list_any_at, Any-from_list_any}
use Rattle.std.proofs.lemmas.List.Kept.{Contains-dedup, IsStrictlySortedBy-dedup, IsStrictlySortedBy-filter}
use Rattle.std.proofs.lemmas.List.Sorted.{list_any-IsPermutation}
use Rattle.std.proofs.lemmas.Map.Made.{lookup-map_values}
use Rattle.net_prefix.specs.declared.addr.Addr.{Addr}
use Rattle.net_prefix.specs.Address.{addr_cmp, same_addr}
use Rattle.net_prefix.specs.Orders.{addr_total}
use Rattle.igp_cost.specs.Laws.{AreAlikeOver, OwnNodesMakeATree, TreeOfIsATree, TreesAreOne}
use Rattle.igp_cost.specs.Metric.{IsMetric}
use Rattle.igp_cost.specs.Topology.{is_node, IsTopology}
use Rattle.igp_cost.specs.Trees.{tree_of}
use Rattle.igp_cost.specs.Walks.{Nodes, Edges, HasEdge, asn_of, is_one_number}
use Rattle.net_conf.specs.declared.tables.Ends.{Ends}
use Rattle.net_conf.specs.declared.tables.Link.{Link}
use Rattle.net_conf.specs.Configuration.{Configuration, as_of}
use Rattle.net_conf.specs.Concerned.{is_among}
use Rattle.net_conf.specs.Costs.{nodes_of, edge_of, edges_of}
use Rattle.net_conf.specs.Kept.{IsSound}
use Rattle.net_conf.specs.Members.{edge_near, leads_to, edges_to, near, nodes_at, AreNear}
use Rattle.net_conf.proofs.Carry.{one_address}
use Rattle.net_conf.proofs.KeptTrees.{found_itself}
use Rattle.net_conf.proofs.Nodes.{HasNodes, ends_are_nodes, sorted_nodes}

-- EDGES

-- the ends of a link are those of its edge
pub edges_near : (rs : List Addr) (links : List (Ends × Link)) →
    filter_map (edge_near rs) links ≡ edges_to rs (filter_map edge_of links)
edges_near rs [] = refl
edges_near rs (e ∷ links) = by e.1.up (is_among e.0.low rs || is_among e.0.high rs) refl (edges_near rs links)
  where
    edge : Addr × Addr × ℕ
    edge = (e.0.low, e.0.high, e.1.metric)

    rest : Edges
    rest = filter_map edge_of links

    by : (up leads : Bool) → leads_to rs edge ≡ leads → filter_map (edge_near rs) links ≡ edges_to rs rest →
        cons_option (if leads then (if up then Some edge else None) else None) (filter_map (edge_near rs) links)
        ≡ edges_to rs (cons_option (if up then Some edge else None) rest)
    by true true is same = ap (λ es. edge ∷ es) same
        ∙ ap (λ t. cond t (edge ∷ edges_to rs rest) (edges_to rs rest)) (sym is)
    by true false is same = same ∙ ap (λ t. cond t (edge ∷ edges_to rs rest) (edges_to rs rest)) (sym is)
    by false true is same = same
    by false false is same = same

-- WHAT IS FOUND

-- of a list of keys, each with what it has, if it has anything
module _ {V : Type 0} (f : Addr → Option V) where
  abbrev pub having : List Addr → List (Addr × V)
  having ks = filter_map (λ k. option_map (λ v. (k, v)) (f k)) ks

  pub found_having : (ks : List Addr) (r : Addr) →
      lookup (is_at (addr_cmp r)) (having ks) ≡ cond (is_among r ks) (f r) None
  found_having [] r = refl
  found_having (q ∷ ks) r = by (f q) refl (is_at (addr_cmp r) q) refl (found_having ks r)
    where
      same : is_at (addr_cmp r) q ≡ true → f r ≡ f q
      same at = ap f (one_address r q at)

      none : (among : Bool) → f r ≡ None → cond among (f r) None ≡ f r
      none true is = refl
      none false is = sym is

      by : (o : Option V) → f q ≡ o → (t : Bool) → is_at (addr_cmp r) q ≡ t →
          lookup (is_at (addr_cmp r)) (having ks) ≡ cond (is_among r ks) (f r) None →
          lookup (is_at (addr_cmp r)) (cons_option (option_map (λ v. (q, v)) o) (having ks))
          ≡ cond (is_at (addr_cmp r) q || is_among r ks) (f r) None
      by (Some x) is true at rest = ap (λ t. cond t (Some x) (lookup (is_at (addr_cmp r)) (having ks))) at
          ∙ sym (same at ∙ is) ∙ ap (λ t. cond (t || is_among r ks) (f r) None) (sym at)
      by (Some x) is false at rest = ap (λ t. cond t (Some x) (lookup (is_at (addr_cmp r)) (having ks))) at ∙ rest
          ∙ ap (λ t. cond (t || is_among r ks) (f r) None) (sym at)
      by None is true at rest = rest ∙ none (is_among r ks) (same at ∙ is)
          ∙ ap (λ t. cond (t || is_among r ks) (f r) None) (sym at)
      by None is false at rest = rest ∙ ap (λ t. cond (t || is_among r ks) (f r) None) (sym at)

  keys_having : (ks : List Addr) → keys_of (having ks) ≡ filter (λ k. is_some (f k)) ks
  keys_having [] = refl
  keys_having (k ∷ ks) = by (f k) (keys_having ks)
    where
      by : (o : Option V) → keys_of (having ks) ≡ filter (λ k. is_some (f k)) ks →
          keys_of (cons_option (option_map (λ v. (k, v)) o) (having ks))
          ≡ cond (is_some o) (k ∷ filter (λ k. is_some (f k)) ks) (filter (λ k. is_some (f k)) ks)
      by None rest = rest
      by (Some v) rest = ap (λ xs. k ∷ xs) rest

  pub having_sorted : (ks : List Addr) → IsStrictlySortedBy addr_cmp ks →
      IsStrictlySortedBy addr_cmp (keys_of (having ks))
  having_sorted ks sorted = subst (IsStrictlySortedBy addr_cmp) (sym (keys_having ks))
      (IsStrictlySortedBy-filter addr_cmp (λ k. is_some (f k)) ks sorted)

  pub having_few : (ks : List Addr) → length (having ks) ≤ length ks
  having_few [] = omega arith
  having_few (k ∷ ks) = by (f k) (having_few ks)
    where
      by : (o : Option V) → length (having ks) ≤ length ks →
          length (cons_option (option_map (λ v. (k, v)) o) (having ks)) ≤ length (k ∷ ks)
      by None le = omega (arith, le)
      by (Some v) le = omega (arith, le)

-- WHO IS AMONG THEM

among_contains : (xs : List Addr) (x : Addr) → is_among x xs ≡ true → Contains xs x
among_contains xs x among =
    let one = Any-from_list_any (is_at (addr_cmp x)) xs among in
    (one.0, one.2, ap (λ d. get_or xs one.0 d) (one_address x one.1 one.4) ∙ one.3 ∙ sym (one_address x one.1 one.4))

pub contains_among : (xs : List Addr) (x : Addr) → Contains xs x → is_among x xs ≡ true
contains_among xs x h = list_any_at (is_at (addr_cmp x)) xs h.0 x h.1 (ap (is_at (addr_cmp x)) h.2 ∙ found_itself x)

-- in order, and each once, the same are among them
module _ (named sorted kept : List Addr) (turned : IsPermutation named sorted) (rising : IsSorted addr_cmp sorted)
    (once : kept ≡ dedup same_addr sorted) where
  pub once_sorted : IsStrictlySortedBy addr_cmp kept
  once_sorted = subst (IsStrictlySortedBy addr_cmp) (sym once)
      (IsStrictlySortedBy-dedup addr_total (λ x y. unsigned_ties x.0 y.0) sorted rising)

  pub once_among : (x : Addr) → is_among x named ≡ true → is_among x kept ≡ true
  once_among x among =
      let there = among_contains sorted x (sym (list_any-IsPermutation (is_at (addr_cmp x)) named sorted turned)
      ∙ among) in
      contains_among kept x (subst (λ ks. Contains ks x) (sym once)
      (Contains-dedup (on_equiv (λ (a : Addr). a.0) nat_eq_equiv)
      (λ x y same. one_address x y (sym (unsigned_ties x.0 y.0) ∙ same)) sorted x there))

-- NEAR NODES

module _ (c : Configuration) (xs : List Addr) where
  said : (x : Addr) → asn_of (nodes_of c) x ≡ as_of c x
  said x = lookup-map_values (λ n. n.asn) (is_at (addr_cmp x)) c.nodes

  pub all_near : IsStrictlySortedBy addr_cmp (keys_of c.nodes) → AreNear c xs (nodes_of c)
  all_near sorted = record {
    size = let long : length (nodes_of c) ≡ length c.nodes = length-map c.nodes (λ e. (e.0, e.1.asn)) in
        omega (arith, long);
    ascending = sorted_nodes c sorted;
    known = λ x _. said x;
    these = λ x _. said x;
  }

  pub some_near : (ks : List Addr) → IsStrictlySortedBy addr_cmp ks → length ks ≤ length c.nodes →
      ((x : Addr) → is_among x xs ≡ true → is_among x ks ≡ true) → AreNear c xs (nodes_at c ks)
  some_near ks sorted few all = record {
    size = let fewer = having_few (as_of c) ks in omega (arith, fewer, few);
    ascending = having_sorted (as_of c) ks sorted;
    known = λ x node. found x ∙ by x (is_among x ks) (sym (ap is_some (found x)) ∙ node);
    these = λ x among. found x ∙ ap (λ t. cond t (as_of c x) None) (all x among);
  }
    where
      found : (x : Addr) → asn_of (nodes_at c ks) x ≡ cond (is_among x ks) (as_of c x) None
      found = found_having (as_of c) ks

      by : (x : Addr) (t : Bool) → is_some (cond t (as_of c x) None) ≡ true → cond t (as_of c x) None ≡ as_of c x
      by x true is = refl
      by x false is = absurd (true≢false (sym is))

contains_map : {X Y : Type 0} (f : X → Y) (xs : List X) (x : X) → Contains xs x → Contains (map f xs) (f x)
contains_map f xs x h = let lt = h.1 in let long = length-map xs f in
    (h.0, omega (arith, lt, long), get_or-map f xs h.0 x (f x) lt ∙ ap f h.2)

-- each end of an edge is near
module _ (rs : List Addr) (edges : Edges) where
  pub member_near : (x : Addr) → is_among x rs ≡ true → is_among x (near rs edges) ≡ true
  member_near x among = contains_among (near rs edges) x
      (Contains-append_left (rs ++ map (λ e. e.0) edges) (map (λ e. e.1) edges) x
      (Contains-append_left rs (map (λ e. e.0) edges) x (among_contains rs x among)))

  ends_near : (a b : Addr) (m : ℕ) → Contains edges (a, b, m) → (is_among a (near rs edges) ≡ true)
      × (is_among b (near rs edges) ≡ true)
  ends_near a b m h = (
    contains_among (near rs edges) a (Contains-append_left (rs ++ map (λ e. e.0) edges) (map (λ e. e.1) edges) a
        (Contains-append_right rs (map (λ e. e.0) edges) a (contains_map (λ e. e.0) edges (a, b, m) h))),
    contains_among (near rs edges) b (Contains-append_right (rs ++ map (λ e. e.0) edges) (map (λ e. e.1) edges) b
        (contains_map (λ e. e.1) edges (a, b, m) h)),
  )

  pub end_near : (a b : Addr) (m : ℕ) → HasEdge edges a b m → is_among a (near rs edges) ≡ true
  end_near a b m (inl h) = (ends_near a b m h).0
  end_near a b m (inr h) = (ends_near b a m h).1

module _ (c : Configuration) (rs : List Addr) (edges : Edges) (nodes : Nodes)
    (are : AreNear c (near rs edges) nodes) where
  alike : (x : Addr) → is_among x (near rs edges) ≡ true → asn_of nodes x ≡ asn_of (nodes_of c) x
  alike x is = are.these x is ∙ sym (said c (near rs edges) x)

  pub node_near : (r : Addr) → is_among r rs ≡ true → is_node nodes r ≡ is_node (nodes_of c) r
  node_near r among = ap is_some (alike r (member_near rs edges r among))

  topology_near : IsSound c → All (HasNodes c) edges → IsTopology nodes edges
  topology_near sound ends = record {
    size = let size = are.size in let most = sound.size in omega (arith, size, most);
    ascending = are.ascending;
    ends = λ k d lt.
        let e = get_or edges k d in
        let near = ends_near rs edges e.0 e.1 e.2 (Contains-get_or edges k d lt) in
        let both = ends k d lt in
        (ap is_some (alike e.0 near.0) ∙ both.0, ap is_some (alike e.1 near.1) ∙ both.1);
  }

  pub topology_to : IsSound c → edges ≡ edges_to rs (edges_of c) → IsTopology nodes edges
  topology_to sound is = topology_near sound
      (subst (All (HasNodes c)) (sym is) (All-filter (leads_to rs) (HasNodes c) (edges_of c) (ends_are_nodes c sound)))

  -- of edges whose ends are near, both say alike who shares the AS of one of these
  pub alike_over : (es : Edges) → ((a b : Addr) (m : ℕ) → HasEdge es a b m → is_among a (near rs edges) ≡ true) →
      (r : Addr) → is_among r rs ≡ true → AreAlikeOver (nodes_of c) nodes es r
  alike_over es ends r among a b m edge =
      ap (λ o. is_one_number o (asn_of (nodes_of c) a)) (sym (alike r (member_near rs edges r among)))
      ∙ ap (is_one_number (asn_of nodes r)) (sym (alike a (ends a b m edge)))

  pub tree_near : OwnNodesMakeATree → TreeOfIsATree → TreesAreOne → IsSound c → IsTopology (nodes_of c) edges →
      All (λ e. IsMetric e.2) edges → (r : Addr) → is_among r rs ≡ true → is_node (nodes_of c) r ≡ true →
      tree_of nodes edges r ≡ tree_of (nodes_of c) edges r
  tree_near own law one sound top metrics r among node =
      one nodes edges r (tree_of nodes edges r) (tree_of (nodes_of c) edges r)
      (law nodes edges (topology_near sound top.ends) metrics r (node_near r among ∙ node))
      (own (nodes_of c) nodes edges metrics r (alike_over edges (end_near rs edges) r among)
      (tree_of (nodes_of c) edges r) (law (nodes_of c) edges top metrics r node))
