use Rattle.igp_cost.proofs.Links.{AreLinks, HasLinksBefore}
use Rattle.igp_cost.proofs.least_trees.wiring.both_ways.Given as goal

abbrev pub invariant-loop-one : goal.invariant-loop-one
invariant-loop-one l = record {
  are : AreLinks l.nodes l.edges l.links.items;
  has : HasLinksBefore l.nodes l.edges l.links.items l.one-index;
}
