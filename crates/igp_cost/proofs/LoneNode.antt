-- A tree hangs on what is said of the ends of edges alone, so a node with no edge changes no tree of the others.
use Rattle.std.proofs.Common.{◌≡◌, ℕ, ◌≢◌, IsTrue, cond, All, List, [], ◌∷◌, ◌++◌, Some, None, Option, refl, sym, ap, ◌∙◌, subst, inl, inr}
use Rattle.std.specs.Prelude.{option_map, option_and_then, is_some}
use Rattle.std.specs.List.{filter_map, cons_option}
use Rattle.std.specs.BTreeMap.{is_at}
use mathlib.Core.Bool.{false≢true}
use Rattle.net_prefix.specs.declared.addr.Addr.{Addr}
use Rattle.net_prefix.specs.Address.{addr_cmp}
use Rattle.igp_cost.specs.declared.label.Label.{Label}
use Rattle.igp_cost.specs.Metric.{IsMetric}
use Rattle.igp_cost.specs.Walks.{Nodes, Edges, Steps, HasEdge, asn_of, share_as, is_one_number, Leads, IsWalk, IsLeastWalk, IsCost, IsFirstHop, HasNoWalk}
use Rattle.igp_cost.specs.Costs.{cost, first_hop}
use Rattle.igp_cost.specs.Topology.{is_node, IsTopology}
use Rattle.igp_cost.specs.Trees.{Reached, cost_in, first_hop_in, IsTreeOf, reached, tree_of}
use Rattle.igp_cost.specs.Labels.{nowhere}
use Rattle.igp_cost.specs.Laws.{AreAlikeOver, LoneNodeMovesNoTree, OwnNodesMakeATree}
use Rattle.igp_cost.proofs.Exact.{cost_exact}
use Rattle.igp_cost.proofs.Hops.{one_cost, one_first_hop, first_hop_exact}
use Rattle.igp_cost.proofs.Places.{lookup_later}
use Rattle.igp_cost.proofs.TreeOf.{edge_end, leads_in}

-- the AS of another address
asn_beside : (front back : Nodes) (x : Addr) (n : ℕ) (a : Addr) → x ≢ a →
    asn_of (front ++ (x, n) ∷ back) a ≡ asn_of (front ++ back) a
asn_beside [] back x n a differs = lookup_later nowhere (x, n) back a differs
asn_beside (e ∷ front) back x n a differs = ap (λ found. cond (is_at (addr_cmp a) e.0) (Some e.1) found)
    (asn_beside front back x n a differs)

turned : (some others : Nodes) (edges : Edges) (r : Addr) → AreAlikeOver some others edges r →
    AreAlikeOver others some edges r
turned some others edges r alike a b m edge = sym (alike a b m edge)

leads_alike : (some others : Nodes) (edges : Edges) (r : Addr) → AreAlikeOver some others edges r →
    (a x : Addr) (steps : Steps) → Leads some edges r a steps x → Leads others edges r a steps x
leads_alike some others edges r alike a x [] walk = walk
leads_alike some others edges r alike a x ((b, m) ∷ steps) walk = (
  subst IsTrue (alike a b m walk.1) walk.0,
  walk.1,
  leads_alike some others edges r alike b x steps walk.2,
)

-- so the costs and first hops are the same
module _ (some others : Nodes) (edges : Edges) (metrics : All (λ e. IsMetric e.2) edges) (r : Addr)
    (alike : AreAlikeOver some others edges r) where
  over : (x : Addr) (steps : Steps) → IsWalk some edges r x steps → IsWalk others edges r x steps
  over x steps walk = leads_alike some others edges r alike r x steps walk

  back : (x : Addr) (steps : Steps) → IsWalk others edges r x steps → IsWalk some edges r x steps
  back x steps walk = leads_alike others some edges r (turned some others edges r alike) r x steps walk

  least_over : (x : Addr) (steps : Steps) → IsLeastWalk some edges r x steps → IsLeastWalk others edges r x steps
  least_over x steps least = record {
    walk = over x steps least.walk;
    least = λ more walk. least.least more (back x more walk);
  }

  least_back : (x : Addr) (steps : Steps) → IsLeastWalk others edges r x steps → IsLeastWalk some edges r x steps
  least_back x steps least = record {
    walk = back x steps least.walk;
    least = λ more walk. least.least more (over x more walk);
  }

  cost_over : (x : Addr) (o : Option ℕ) → IsCost some edges r x o → IsCost others edges r x o
  cost_over x None none = λ steps walk. none steps (back x steps walk)
  cost_over x (Some c) is = (is.0, least_over x is.0 is.1, is.2)

  hop_over : (x : Addr) (o : Option Addr) → IsFirstHop some edges r x o → IsFirstHop others edges r x o
  hop_over x None none = λ steps walk. none steps (back x steps walk)
  hop_over x (Some h) is = record {
    begins = (is.begins.0, least_over x is.begins.0 is.begins.1, is.begins.2);
    least = λ steps walk. is.least steps (least_back x steps walk);
  }

  pub cost_alike : (x : Addr) → cost some edges r x ≡ cost others edges r x
  cost_alike x = one_cost others edges r x (cost some edges r x) (cost others edges r x)
      (cost_over x (cost some edges r x) (cost_exact some edges r x)) (cost_exact others edges r x)

  pub hop_alike : (x : Addr) → first_hop some edges r x ≡ first_hop others edges r x
  hop_alike x = one_first_hop others edges r x (first_hop some edges r x) (first_hop others edges r x)
      (hop_over x (first_hop some edges r x) (first_hop_exact some edges metrics r x))
      (first_hop_exact others edges metrics r x)

  tree_over : (t : Reached) → IsTreeOf some edges r t → IsTreeOf others edges r t
  tree_over t is = record {
    source = is.source;
    ascending = is.ascending;
    costs = λ x. cost_over x (cost_in t x) (is.costs x);
    first_hops = λ x. hop_over x (first_hop_in t x) (is.first_hops x);
  }

pub own_nodes : OwnNodesMakeATree
own_nodes some others edges metrics r alike t is = tree_over some others edges metrics r alike t is

-- the row of a cost and a hop, where there are both
abbrev pub row_by : Addr → Option ℕ → Option Addr → Option (Addr × Label)
row_by x o p = option_and_then (λ c. option_map (λ h. (x, record { cost = c; hop = h })) p) o

pub same_rows : (f g : Addr → Option (Addr × Label)) → ((y : Addr) → f y ≡ g y) → (nodes : Nodes) →
    filter_map (λ n. f n.0) nodes ≡ filter_map (λ n. g n.0) nodes
same_rows f g same [] = refl
same_rows f g same (e ∷ nodes) = ap (λ p. cons_option p (filter_map (λ n. f n.0) nodes)) (same e.0)
    ∙ ap (cons_option (g e.0)) (same_rows f g same nodes)

rows_beside : (f g : Addr → Option (Addr × Label)) → ((y : Addr) → f y ≡ g y) → (x : Addr) (n : ℕ) → f x ≡ None →
    (front back : Nodes) → filter_map (λ n. f n.0) (front ++ (x, n) ∷ back) ≡ filter_map (λ n. g n.0) (front ++ back)
rows_beside f g same x n none [] back = ap (λ p. cons_option p (filter_map (λ n. f n.0) back)) none
    ∙ same_rows f g same back
rows_beside f g same x n none (e ∷ front) back =
    ap (λ p. cons_option p (filter_map (λ n. f n.0) (front ++ (x, n) ∷ back))) (same e.0)
    ∙ ap (cons_option (g e.0)) (rows_beside f g same x n none front back)

module _ (front back : Nodes) (x : Addr) (n : ℕ) (edges : Edges) (top : IsTopology (front ++ back) edges)
    (absent : asn_of (front ++ back) x ≡ None) (metrics : All (λ e. IsMetric e.2) edges) (r : Addr)
    (r_in : IsTrue (is_node (front ++ back) r)) where
  abbrev old : Nodes
  old = front ++ back

  abbrev new : Nodes
  new = front ++ (x, n) ∷ back

  beside : (a : Addr) → IsTrue (is_node old a) → asn_of new a ≡ asn_of old a
  beside a inside = asn_beside front back x n a
      (λ same. false≢true (sym (ap is_some (subst (λ y. asn_of old y ≡ None) same absent)) ∙ inside))

  start : (a b : Addr) (m : ℕ) → HasEdge edges a b m → IsTrue (is_node old a)
  start a b m (inl e) = edge_end old edges top metrics r r_in b a m (inr e)
  start a b m (inr e) = edge_end old edges top metrics r r_in b a m (inl e)

  alike : AreAlikeOver new old edges r
  alike a b m edge = ap (λ o. is_one_number o (asn_of new a)) (beside r r_in)
      ∙ ap (is_one_number (asn_of old r)) (beside a (start a b m edge))

  none : cost new edges r x ≡ None
  none =
      let no_walk : HasNoWalk old edges r x = λ steps walk. false≢true (sym (ap is_some absent)
      ∙ leads_in old edges top metrics r r_in x steps walk) in
      cost_alike new old edges metrics r alike x
      ∙ one_cost old edges r x (cost old edges r x) None (cost_exact old edges r x) no_walk

  same : (y : Addr) → reached new edges r y ≡ reached old edges r y
  same y = ap (λ o. row_by y o (first_hop new edges r y)) (cost_alike new old edges metrics r alike y)
      ∙ ap (row_by y (cost old edges r y)) (hop_alike new old edges metrics r alike y)

  pub same_tree : tree_of new edges r ≡ tree_of old edges r
  unfolding tree_of
  same_tree =
      let made : List (Addr × Label) → Reached = λ rows. record { source = r; labels = rows } in
      ap made (rows_beside (reached new edges r) (reached old edges r) same x n
      (ap (λ o. row_by x o (first_hop new edges r x)) none) front back)

pub lone_node : LoneNodeMovesNoTree
lone_node front back x n edges top absent metrics r r_in = same_tree front back x n edges top absent metrics r r_in
