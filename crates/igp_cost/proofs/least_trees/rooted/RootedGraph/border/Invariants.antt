use Rattle.std.specs.BinaryHeap.{heap_items}
use Rattle.igp_cost.specs.Labels.{AreQueued}
use Rattle.igp_cost.proofs.least_trees.rooted.RootedGraph.border.Given as goal

abbrev pub invariant-loop-at : goal.invariant-loop-at
invariant-loop-at l = AreQueued l.self.nodes.now (heap_items l.queue)
