-- The trees that a change of the edges may move, and what becomes of them. No public contract cites this file.
use Rattle.std.specs.Prelude.{◌≡◌, true, false, List, map, All, option_map, is_some, IsTrue}
use Rattle.std.specs.Map.{lookup}
use Rattle.std.specs.BTreeMap.{insert_entry, is_at}
use Rattle.std.specs.BTreeSet.{insert_key}
use Rattle.net_prefix.specs.declared.addr.Addr.{Addr}
use Rattle.net_prefix.specs.Address.{addr_cmp}
use Rattle.igp_cost.specs.Topology.{Topology, is_node}
use Rattle.igp_cost.specs.Trees.{Reached, source_of, tree_of}
use Rattle.igp_cost.specs.Stays.{WasTree}
use Rattle.igp_cost.specs.declared.change.Change.{Change}
use Rattle.net_conf.specs.Concerned.{is_among}

-- a tree from before a change, and the graph after it
pub record MovedTree : Type 0 where
  pub graph : Topology
  pub change : Change
  pub tree : Reached

-- the tree is that of a node of the graph, from before the change
pub record IsFromBefore (x : MovedTree) : Type 0 where
  pub node : IsTrue (is_node x.graph.nodes (source_of x.tree))
  pub was : WasTree x.change x.graph.nodes x.graph.edges x.tree

-- the tree of its node after the change
abbrev pub tree_after : MovedTree → Reached
tree_after x = tree_of x.graph.nodes x.graph.edges (source_of x.tree)

-- whose trees they are
abbrev pub owners : List MovedTree → List Addr
owners moved = map (λ x. source_of x.tree) moved

-- these may move, and all others are trees of the graph after the change too
pub record AreMoved (graph : Topology) (old : List (Addr × Reached)) (moved : List MovedTree) : Type 0 where
  pub graphs : All (λ x. x.graph ≡ graph) moved
  pub there : (r : Addr) → is_among r (owners moved) ≡ true → is_some (lookup (is_at (addr_cmp r)) old) ≡ true
  pub others : (r : Addr) → is_among r (owners moved) ≡ false →
      lookup (is_at (addr_cmp r)) old ≡ option_map (λ t. tree_of graph.nodes graph.edges r)
      (lookup (is_at (addr_cmp r)) old)

-- the trees, with this one
abbrev pub with_tree : List (Addr × Reached) → Reached → List (Addr × Reached)
with_tree trees t = insert_entry addr_cmp trees (source_of t) t

-- the addresses, with its source
abbrev pub with_source : List Addr → Reached → List Addr
with_source addrs t = insert_key addr_cmp addrs (source_of t)
