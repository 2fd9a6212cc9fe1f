use Rattle.igp_cost.specs.Placed.{ArePlaced}
use Rattle.igp_cost.specs.Labels.{ArePlaces, AreLinkPlaces}
use Rattle.igp_cost.proofs.least_trees.rooted.RootedGraph.shift_from.Given as goal

abbrev pub invariant-loop-i : goal.invariant-loop-i
invariant-loop-i l = record {
  placed : ArePlaced l.self.nodes.now l.rows;
  moved : ArePlaces l.self.nodes.now l.moved.items;
  border : AreLinkPlaces l.self.links.now l.border.items;
}
