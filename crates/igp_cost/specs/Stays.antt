-- When the tree of a graph before a change is the tree after it, or another one is.
use Rattle.std.specs.Prelude.{◌≡◌}
use Rattle.igp_cost.specs.declared.change.Change.{Change}
use Rattle.igp_cost.specs.Walks.{Nodes, Edges}
use Rattle.igp_cost.specs.Trees.{Reached, source_of, IsTreeOf, tree_of}
use Rattle.igp_cost.specs.Changes.{IsChange}

-- the tree is that of its source, by the definition and as a whole
pub record IsTree (nodes : Nodes) (edges : Edges) (t : Reached) : Type 0 where
  pub least : IsTreeOf nodes edges (source_of t) t
  pub whole : t ≡ tree_of nodes edges (source_of t)

-- the tree is that of some edges of which the change makes these
pub record WasTree (change : Change) (nodes : Nodes) (edges : Edges) (t : Reached) : Type 0 where
  pub before : Edges
  pub changes : IsChange change before edges
  pub was : IsTreeOf nodes before (source_of t) t

-- if the tree was that of the edges before the change, it is the tree of these
abbrev pub Stays : Change → Nodes → Edges → Reached → Type 0
Stays change nodes edges t = (old : Edges) → IsChange change old edges → IsTreeOf nodes old (source_of t) t →
    IsTree nodes edges t

-- if the one tree was that of the edges before the change, the other is the tree of these
abbrev pub Follows : Change → Nodes → Edges → Reached → Reached → Type 0
Follows change nodes edges t made = (old : Edges) → IsChange change old edges → IsTreeOf nodes old (source_of t) t →
    IsTree nodes edges made
