use Rattle.std.proofs.Common.{◌≡◌, ◌<◌, vec_len}
use Rattle.igp_cost.specs.Labels.{AreLimited, Starts}
use Rattle.igp_cost.proofs.least_trees.rooted.RootedGraph.old_labels.Given as goal

abbrev pub invariant-loop-at : goal.invariant-loop-at
invariant-loop-at l = record {
  same_length : vec_len l.labels ≡ l.at;
  limited : AreLimited l.labels.items;
  start : l.self.source < l.at → Starts l.self.nodes.now l.self.source l.labels.items;
}
