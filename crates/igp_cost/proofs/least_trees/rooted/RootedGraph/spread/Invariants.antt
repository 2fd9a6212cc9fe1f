use Rattle.std.proofs.Common.{◌+◌, ◌≤◌}
use Rattle.std.specs.BinaryHeap.{heap_items, heap_len}
use Rattle.igp_cost.specs.Labels.{IsBounded, AreBackedLabels, weight_of, AreQueued}
use Rattle.igp_cost.proofs.least_trees.rooted.RootedGraph.spread.Given as goal

abbrev pub invariant-loop-at : goal.invariant-loop-at
invariant-loop-at l = record {
  bounded : IsBounded l.self.nodes.now l.labels;
  backed : AreBackedLabels l.self.nodes.now l.self.source l.self.links.now l.initial.labels →
      AreBackedLabels l.self.nodes.now l.self.source l.self.links.now l.labels;
  queued : AreQueued l.self.nodes.now (heap_items l.queue);
  falls : weight_of l.labels + heap_len l.queue ≤ weight_of l.initial.labels + heap_len l.initial.queue;
}
