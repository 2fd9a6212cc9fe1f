use Rattle.std.proofs.Common.{ℕ, ◌<◌, IsTrue, get_or}
use Rattle.net_prefix.specs.declared.addr.Addr.{Addr}
use Rattle.igp_cost.specs.Topology.{is_node}
use Rattle.igp_cost.proofs.least_trees.conditions.have_nodes.Given as goal

abbrev pub invariant-loop-one : goal.invariant-loop-one
invariant-loop-one l = (k : ℕ) (d : Addr × Addr × ℕ) → k < l.one-index → IsTrue (is_node l.nodes (get_or l.edges k d).0)
    × IsTrue (is_node l.nodes (get_or l.edges k d).1)
