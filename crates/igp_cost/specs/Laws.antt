-- What holds of costs, first hops and trees in any graph.
use Rattle.std.specs.Prelude.{◌≡◌, ℕ, true, IsTrue, ◌∷◌, ◌++◌, Option, None, is_some, All}
use Rattle.net_prefix.specs.declared.addr.Addr.{Addr}
use Rattle.igp_cost.specs.Metric.{IsMetric}
use Rattle.igp_cost.specs.Walks.{Nodes, Edges, HasEdge, asn_of, share_as, IsCost, IsFirstHop}
use Rattle.igp_cost.specs.Costs.{cost, first_hop}
use Rattle.igp_cost.specs.declared.change.Change.TheVariants.{Added, Removed, Changed}
use Rattle.igp_cost.specs.Changes.{IsChange}
use Rattle.igp_cost.specs.Topology.{is_node, IsTopology}
use Rattle.igp_cost.specs.Trees.{Reached, IsTreeOf, tree_of}

-- the function `cost` is the cost of a least walk
abbrev pub CostsAreLeast : Type 0
CostsAreLeast = (nodes : Nodes) (edges : Edges) (r x : Addr) → IsCost nodes edges r x (cost nodes edges r x)

-- the function `first_hop` is the least second address of a least walk
abbrev pub FirstHopsAreLeast : Type 0
FirstHopsAreLeast = (nodes : Nodes) (edges : Edges) → All (λ e. IsMetric e.2) edges → (r x : Addr) →
    IsFirstHop nodes edges r x (first_hop nodes edges r x)

-- two costs from r to x are one
abbrev pub CostsAreOne : Type 0
CostsAreOne = (nodes : Nodes) (edges : Edges) (r x : Addr) (o p : Option ℕ) → IsCost nodes edges r x o →
    IsCost nodes edges r x p → o ≡ p

-- two first hops from r to x are one
abbrev pub FirstHopsAreOne : Type 0
FirstHopsAreOne = (nodes : Nodes) (edges : Edges) (r x : Addr) (o p : Option Addr) → IsFirstHop nodes edges r x o →
    IsFirstHop nodes edges r x p → o ≡ p

-- two trees from r are one: what `retouch` gives is what `tree` gives
abbrev pub TreesAreOne : Type 0
TreesAreOne = (nodes : Nodes) (edges : Edges) (r : Addr) (t u : Reached) → IsTreeOf nodes edges r t →
    IsTreeOf nodes edges r u → t ≡ u

-- an edge between a and b that is taken from a list, put into one, or given another metric
pub record AreChanges (front back : Edges) (a b : Addr) (m n : ℕ) : Type 0 where
  pub removed : IsChange (Removed a b) (front ++ (a, b, m) ∷ back) (front ++ back)
  pub added : IsChange (Added a b m) (front ++ back) (front ++ (a, b, m) ∷ back)
  pub changed : IsChange (Changed a b n) (front ++ (a, b, m) ∷ back) (front ++ (a, b, n) ∷ back)

-- each of these is one change
abbrev pub OneEdgeIsAChange : Type 0
OneEdgeIsAChange = (front back : Edges) (a b : Addr) (m n : ℕ) → IsMetric m → AreChanges front back a b m n

-- the function `tree_of` is a tree
abbrev pub TreeOfIsATree : Type 0
TreeOfIsATree = (nodes : Nodes) (edges : Edges) → IsTopology nodes edges → All (λ e. IsMetric e.2) edges → (r : Addr) →
    IsTrue (is_node nodes r) → IsTreeOf nodes edges r (tree_of nodes edges r)

-- one more node, of an address that was none, and no edge to it: the trees of the other nodes are the same
abbrev pub LoneNodeMovesNoTree : Type 0
LoneNodeMovesNoTree = (front back : Nodes) (x : Addr) (n : ℕ) (edges : Edges) → IsTopology (front ++ back) edges →
    asn_of (front ++ back) x ≡ None → All (λ e. IsMetric e.2) edges → (r : Addr) → IsTrue (is_node (front ++ back) r) →
    tree_of (front ++ (x, n) ∷ back) edges r ≡ tree_of (front ++ back) edges r

-- each edge of some joins the ends of an edge of these, whatever its metric
abbrev pub JoinAllOf : Edges → Edges → Type 0
JoinAllOf old new = (a b : Addr) (m : ℕ) → HasEdge old a b m → (n : ℕ) × HasEdge new a b n

-- over edges that join all that others join, whoever had a cost to an address has one
abbrev pub MoreEdgesReachMore : Type 0
MoreEdgesReachMore = (nodes : Nodes) (old new : Edges) → JoinAllOf old new → (r x : Addr) →
    is_some (cost nodes old r x) ≡ true → is_some (cost nodes new r x) ≡ true

-- from each node of r's AS both have the same edges
abbrev pub AreAlikeFrom : Nodes → Edges → Edges → Addr → Type 0
AreAlikeFrom nodes some others r = (a b : Addr) (m : ℕ) → IsTrue (share_as nodes r a) →
    (HasEdge some a b m → HasEdge others a b m) × (HasEdge others a b m → HasEdge some a b m)

-- so r has one tree by both
abbrev pub OwnEdgesMakeATree : Type 0
OwnEdgesMakeATree = (nodes : Nodes) (some others : Edges) → All (λ e. IsMetric e.2) some →
    All (λ e. IsMetric e.2) others → (r : Addr) → AreAlikeFrom nodes some others r →
    tree_of nodes some r ≡ tree_of nodes others r

-- both say alike which ends of the edges are in r's AS
abbrev pub AreAlikeOver : Nodes → Nodes → Edges → Addr → Type 0
AreAlikeOver some others edges r = (a b : Addr) (m : ℕ) → HasEdge edges a b m → share_as some r a ≡ share_as others r a

-- so r has one tree by both: other nodes count nowhere
abbrev pub OwnNodesMakeATree : Type 0
OwnNodesMakeATree = (some others : Nodes) (edges : Edges) → All (λ e. IsMetric e.2) edges → (r : Addr) →
    AreAlikeOver some others edges r → (t : Reached) → IsTreeOf some edges r t → IsTreeOf others edges r t
