use Rattle.std.specs.BinaryHeap.{heap_items}
use Rattle.igp_cost.specs.Labels.{AreQueued}
use Rattle.igp_cost.proofs.least_trees.rooted.RootedGraph.enqueue_around.Given as goal

abbrev pub invariant-loop-i : goal.invariant-loop-i
invariant-loop-i l = AreQueued l.self.nodes.now (heap_items l.queue)
