use Rattle.std.proofs.Common.{◌+◌}
use Rattle.std.specs.BinaryHeap.{heap_items, heap_len}
use Rattle.igp_cost.specs.Labels.{IsBounded, AreBackedLabels, weight_of, AreQueued}
use Rattle.igp_cost.proofs.least_trees.rooted.RootedGraph.explore.Given as goal

abbrev pub invariant-loop-cost : goal.invariant-loop-cost
invariant-loop-cost l = record {
  bounded : IsBounded l.self.nodes.now l.labels;
  backed : AreBackedLabels l.self.nodes.now l.self.source l.self.links.now l.initial.labels →
      AreBackedLabels l.self.nodes.now l.self.source l.self.links.now l.labels;
  queued : AreQueued l.self.nodes.now (heap_items l.queue);
}

abbrev pub decreases-loop-cost : goal.decreases-loop-cost
decreases-loop-cost l = weight_of l.labels + heap_len l.queue
