use Rattle.std.specs.BinaryHeap.{heap_items}
use Rattle.igp_cost.specs.Placed.{ArePlaced}
use Rattle.igp_cost.specs.Labels.{AreQueued}
use Rattle.igp_cost.proofs.least_trees.rooted.RootedGraph.gain_on.Given as goal

abbrev pub invariant-loop : goal.invariant-loop
invariant-loop l = record {
  placed : ArePlaced l.self.nodes.now l.rows;
  queued : AreQueued l.self.nodes.now (heap_items l.queue);
}
