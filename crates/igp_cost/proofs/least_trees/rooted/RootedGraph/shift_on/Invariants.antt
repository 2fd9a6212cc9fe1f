use Rattle.igp_cost.specs.Placed.{ArePlaced}
use Rattle.igp_cost.specs.Labels.{ArePlaces, AreLinkPlaces}
use Rattle.igp_cost.proofs.least_trees.rooted.RootedGraph.shift_on.Given as goal

abbrev pub invariant-loop-next : goal.invariant-loop-next
invariant-loop-next l = record {
  placed : ArePlaced l.self.nodes.now l.rows;
  moved : ArePlaces l.self.nodes.now l.moved.items;
  border : AreLinkPlaces l.self.links.now l.border.items;
}
