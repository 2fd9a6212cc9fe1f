-- The specification's `tree_of` is a tree.
use Rattle.std.proofs.Common.{◌≡◌, ℕ, ◌<◌, IsTrue, All, List, [], ◌∷◌, map, length, Some, None, Option, refl, sym, ap, ◌∙◌, subst, inl, inr}
use Rattle.std.specs.Prelude.{option_map, option_and_then, is_some}
use mathlib.Core.Bool.{false≢true}
use Rattle.std.proofs.lemmas.List.Elements.{All-contains}
use Rattle.net_prefix.specs.declared.addr.Addr.{Addr}
use Rattle.igp_cost.specs.declared.label.Label.{Label}
use Rattle.igp_cost.specs.Metric.{IsMetric}
use Rattle.igp_cost.specs.Walks.{Nodes, Edges, Steps, HasEdge, asn_of, IsWalk, IsCost, IsFirstHop, HasNoWalk}
use Rattle.igp_cost.specs.Costs.{cost, first_hop}
use Rattle.igp_cost.specs.Topology.{is_node, IsTopology}
use Rattle.igp_cost.specs.Trees.{Reached, label_in, cost_in, first_hop_in, IsTreeOf, reached, tree_of}
use Rattle.igp_cost.specs.Labels.{Labels, addr_at, nowhere}
use Rattle.igp_cost.specs.Laws.{TreeOfIsATree}
use Rattle.igp_cost.specs.Wired.{IsRising, rows_of, no_row}
use Rattle.igp_cost.proofs.Converse.{split_last}
use Rattle.igp_cost.proofs.Exact.{cost_exact}
use Rattle.igp_cost.proofs.Hops.{first_hop_exact}
use Rattle.igp_cost.proofs.Places.{placed, rises_from_sorted, sorted_from_rises}
use Rattle.igp_cost.proofs.Rows.{row_at, row_node, rows_rise}
use Rattle.igp_cost.proofs.Unmoved.{mapped, same_length}
use Rattle.igp_cost.proofs.Whole.{rows_are}

-- a label of a cost and a hop, where there are both
abbrev label_by : Option ℕ → Option Addr → Option Label
label_by o p = option_and_then (λ c. option_map (λ h. record { cost = c; hop = h }) p) o

abbrev row_of : Addr → ℕ → Addr → Addr × Label
row_of x c h = (x, record { cost = c; hop = h })

abbrev row_with : Addr → Label → Addr × Label
row_with x l = (x, l)

split : (x : Addr) (o : Option ℕ) (p : Option Addr) → option_and_then (λ c. option_map (row_of x c) p) o
    ≡ option_map (row_with x) (label_by o p)
split x None p = refl
split x (Some c) None = refl
split x (Some c) (Some h) = refl

-- a row of a node's address
is_there : (nodes : Nodes) (x : Addr) (n : ℕ) → asn_of nodes x ≡ Some n → IsTrue (is_node nodes x)
is_there nodes x n is = ap is_some is

module _ (nodes : Nodes) (edges : Edges) (top : IsTopology nodes edges) (metrics : All (λ e. IsMetric e.2) edges)
    (r : Addr) (r_in : IsTrue (is_node nodes r)) where
  rising : IsRising nodes
  rising = rises_from_sorted nowhere nodes top.ascending

  abbrev label_of : Addr → Option Label
  label_of x = label_by (cost nodes edges r x) (first_hop nodes edges r x)

  abbrev labels : Labels
  labels = map (λ n. label_of n.0) nodes

  abbrev tree : Reached
  tree = record { source = r; labels = rows_of nodes labels }

  agree_by : (x : Addr) (o : Option ℕ) (p : Option Addr) → IsCost nodes edges r x o → IsFirstHop nodes edges r x p →
      (option_map (λ l. l.cost) (label_by o p) ≡ o) × (option_map (λ l. l.hop) (label_by o p) ≡ p)
  agree_by x None None g h = (refl, refl)
  agree_by x None (Some b) g h = absurd (g h.begins.0 h.begins.1.walk)
  agree_by x (Some c) None g h = absurd (h g.0 g.1.walk)
  agree_by x (Some c) (Some b) g h = (refl, refl)

  agree : (x : Addr) → (option_map (λ l. l.cost) (label_of x) ≡ cost nodes edges r x)
      × (option_map (λ l. l.hop) (label_of x) ≡ first_hop nodes edges r x)
  agree x = agree_by x (cost nodes edges r x) (first_hop nodes edges r x) (cost_exact nodes edges r x)
      (first_hop_exact nodes edges metrics r x)

  at_node : (i : ℕ) → i < length nodes → label_in tree (addr_at nodes i) ≡ label_of (addr_at nodes i)
  at_node i lt = row_at nodes labels rising (same_length label_of nodes) i lt ∙ mapped label_of nodes i lt

  pub edge_end : (a x : Addr) (m : ℕ) → HasEdge edges a x m → IsTrue (is_node nodes x)
  edge_end a x m (inl e) =
      (All-contains (λ (e : Addr × Addr × ℕ). IsTrue (is_node nodes e.0) × IsTrue (is_node nodes e.1)) edges (
        a,
        x,
        m,
      ) top.ends e).1
  edge_end a x m (inr e) =
      (All-contains (λ (e : Addr × Addr × ℕ). IsTrue (is_node nodes e.0) × IsTrue (is_node nodes e.1)) edges (
        x,
        a,
        m,
      ) top.ends e).0

  -- a walk leads to a node
  pub leads_in : (x : Addr) (steps : Steps) → IsWalk nodes edges r x steps → IsTrue (is_node nodes x)
  leads_in x [] walk = subst (λ y. IsTrue (is_node nodes y)) walk r_in
  leads_in x ((b, m) ∷ steps) walk = let s = split_last nodes edges r r x b m steps walk in
      edge_end s.before x s.metric s.edge

  -- the label of an address says its cost and its first hop
  record IsRight (x : Addr) : Type 0 where
    cost : IsCost nodes edges r x (cost_in tree x)
    hop : IsFirstHop nodes edges r x (first_hop_in tree x)

  right_at : (i : ℕ) → i < length nodes → IsRight (addr_at nodes i)
  right_at i lt =
      let x = addr_at nodes i in
      let same = at_node i lt in
      record {
        cost = subst (λ o. IsCost nodes edges r x o) (sym (ap (option_map (λ l. l.cost)) same ∙ (agree x).0))
            (cost_exact nodes edges r x);
        hop = subst (λ o. IsFirstHop nodes edges r x o) (sym (ap (option_map (λ l. l.hop)) same ∙ (agree x).1))
            (first_hop_exact nodes edges metrics r x);
      }

  right : (x : Addr) → IsRight x
  right x = by (asn_of nodes x) refl (label_in tree x) refl
    where
      by : (o : Option ℕ) → asn_of nodes x ≡ o → (p : Option Label) → label_in tree x ≡ p → IsRight x
      by (Some n) is p is_p = let found = placed nowhere nodes x n is in
          subst IsRight found.key (right_at found.place found.within)
      by None is (Some l) is_p =
          let row = placed no_row (rows_of nodes labels) x l is_p in
          let node = row_node nodes labels row.place row.within in
          subst IsRight (node.same ∙ row.key) (right_at node.place node.within)
      by None is None is_p =
          let none : HasNoWalk nodes edges r x = λ steps walk. false≢true (sym (ap is_some is)
          ∙ leads_in x steps walk) in
          record {
            cost = subst (λ o. IsCost nodes edges r x (option_map (λ l. l.cost) o)) (sym is_p) none;
            hop = subst (λ o. IsFirstHop nodes edges r x (option_map (λ l. l.hop) o)) (sym is_p) none;
          }

  is_tree : IsTreeOf nodes edges r tree
  is_tree = record {
    source = refl;
    ascending = sorted_from_rises no_row (rows_of nodes labels) (rows_rise nodes labels rising);
    costs = λ x. (right x).cost;
    first_hops = λ x. (right x).hop;
  }

  same_tree : tree_of nodes edges r ≡ tree
  unfolding tree_of
  same_tree =
      let made : List (Addr × Label) → Reached = λ rows. record { source = r; labels = rows } in
      sym (ap made (rows_are (reached nodes edges r) nodes labels (same_length label_of nodes)
      (λ i lt. split (addr_at nodes i) (cost nodes edges r (addr_at nodes i))
      (first_hop nodes edges r (addr_at nodes i))
      ∙ ap (option_map (row_with (addr_at nodes i))) (sym (mapped label_of nodes i lt)))))

  pub tree_of_tree : IsTreeOf nodes edges r (tree_of nodes edges r)
  tree_of_tree = subst (λ (t : Reached). IsTreeOf nodes edges r t) (sym same_tree) is_tree

pub tree_of_is_a_tree : TreeOfIsATree
tree_of_is_a_tree nodes edges top metrics r r_in = tree_of_tree nodes edges top metrics r r_in
