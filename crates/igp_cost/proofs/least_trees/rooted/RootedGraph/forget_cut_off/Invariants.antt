use Rattle.igp_cost.specs.Labels.{AreLimited, ArePlaces}
use Rattle.igp_cost.proofs.least_trees.rooted.RootedGraph.forget_cut_off.Given as goal

abbrev pub invariant-loop : goal.invariant-loop
invariant-loop l = record {
  limited : AreLimited l.labels;
  suspects : ArePlaces l.self.nodes.now l.suspects.items;
  forgotten : ArePlaces l.self.nodes.now l.forgotten.items;
}
