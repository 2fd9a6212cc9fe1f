-- A tree hangs on the edges from the nodes of its source's AS alone.
use Rattle.std.proofs.Common.{◌≡◌, ℕ, All, IsTrue, List, [], ◌∷◌, Some, None, Option, ap, ◌∙◌}
use Rattle.net_prefix.specs.declared.addr.Addr.{Addr}
use Rattle.igp_cost.specs.declared.label.Label.{Label}
use Rattle.igp_cost.specs.Metric.{IsMetric}
use Rattle.igp_cost.specs.Walks.{Nodes, Edges, Steps, HasEdge, share_as, Leads, IsWalk, IsLeastWalk, IsCost, IsFirstHop}
use Rattle.igp_cost.specs.Costs.{cost, first_hop}
use Rattle.igp_cost.specs.Trees.{Reached, reached, tree_of}
use Rattle.igp_cost.specs.Laws.{AreAlikeFrom, OwnEdgesMakeATree}
use Rattle.igp_cost.proofs.Exact.{cost_exact}
use Rattle.igp_cost.proofs.Hops.{one_cost, one_first_hop, first_hop_exact}
use Rattle.igp_cost.proofs.LoneNode.{row_by, same_rows}

-- the same walk over others that have each edge from a node of r's AS
module _ (nodes : Nodes) (some others : Edges) (r : Addr) (has : (a b : Addr) (m : ℕ) → IsTrue (share_as nodes r a) →
    HasEdge some a b m → HasEdge others a b m) where
  led : (a x : Addr) (steps : Steps) → Leads nodes some r a steps x → Leads nodes others r a steps x
  led a x [] walk = walk
  led a x ((b, m) ∷ steps) walk = (walk.0, has a b m walk.0 walk.1, led b x steps walk.2)

module _ (nodes : Nodes) (some others : Edges) (metrics : All (λ e. IsMetric e.2) some)
    (more : All (λ e. IsMetric e.2) others) (r : Addr) (alike : AreAlikeFrom nodes some others r) where
  over : (x : Addr) (steps : Steps) → IsWalk nodes some r x steps → IsWalk nodes others r x steps
  over x steps walk = led nodes some others r (λ a b m inside. (alike a b m inside).0) r x steps walk

  back : (x : Addr) (steps : Steps) → IsWalk nodes others r x steps → IsWalk nodes some r x steps
  back x steps walk = led nodes others some r (λ a b m inside. (alike a b m inside).1) r x steps walk

  least_over : (x : Addr) (steps : Steps) → IsLeastWalk nodes some r x steps → IsLeastWalk nodes others r x steps
  least_over x steps least = record {
    walk = over x steps least.walk;
    least = λ more walk. least.least more (back x more walk);
  }

  least_back : (x : Addr) (steps : Steps) → IsLeastWalk nodes others r x steps → IsLeastWalk nodes some r x steps
  least_back x steps least = record {
    walk = back x steps least.walk;
    least = λ more walk. least.least more (over x more walk);
  }

  cost_over : (x : Addr) (o : Option ℕ) → IsCost nodes some r x o → IsCost nodes others r x o
  cost_over x None none = λ steps walk. none steps (back x steps walk)
  cost_over x (Some c) is = (is.0, least_over x is.0 is.1, is.2)

  hop_over : (x : Addr) (o : Option Addr) → IsFirstHop nodes some r x o → IsFirstHop nodes others r x o
  hop_over x None none = λ steps walk. none steps (back x steps walk)
  hop_over x (Some h) is = record {
    begins = (is.begins.0, least_over x is.begins.0 is.begins.1, is.begins.2);
    least = λ steps walk. is.least steps (least_back x steps walk);
  }

  cost_alike : (x : Addr) → cost nodes some r x ≡ cost nodes others r x
  cost_alike x = one_cost nodes others r x (cost nodes some r x) (cost nodes others r x)
      (cost_over x (cost nodes some r x) (cost_exact nodes some r x)) (cost_exact nodes others r x)

  hop_alike : (x : Addr) → first_hop nodes some r x ≡ first_hop nodes others r x
  hop_alike x = one_first_hop nodes others r x (first_hop nodes some r x) (first_hop nodes others r x)
      (hop_over x (first_hop nodes some r x) (first_hop_exact nodes some metrics r x))
      (first_hop_exact nodes others more r x)

  same : (y : Addr) → reached nodes some r y ≡ reached nodes others r y
  same y = ap (λ o. row_by y o (first_hop nodes some r y)) (cost_alike y)
      ∙ ap (row_by y (cost nodes others r y)) (hop_alike y)

  pub same_tree : tree_of nodes some r ≡ tree_of nodes others r
  unfolding tree_of
  same_tree =
      let made : List (Addr × Label) → Reached = λ rows. record { source = r; labels = rows } in
      ap made (same_rows (reached nodes some r) (reached nodes others r) same nodes)

pub own_edges : OwnEdgesMakeATree
own_edges nodes some others metrics more r alike = same_tree nodes some others metrics more r alike
