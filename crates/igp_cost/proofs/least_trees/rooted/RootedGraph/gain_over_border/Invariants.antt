use Rattle.std.specs.BinaryHeap.{heap_items}
use Rattle.igp_cost.specs.Placed.{ArePlaced}
use Rattle.igp_cost.specs.Labels.{AreQueued}
use Rattle.igp_cost.proofs.least_trees.rooted.RootedGraph.gain_over_border.Given as goal

abbrev pub invariant-loop-i : goal.invariant-loop-i
invariant-loop-i l = record {
  placed : ArePlaced l.self.nodes.now l.rows;
  queued : AreQueued l.self.nodes.now (heap_items l.queue);
}
