use Rattle.std.proofs.Common.{◌≡◌, ℕ, ◌<◌, ◌≤◌, length}
use Rattle.std.specs.Prelude.{slice_index_or}
use Rattle.std.specs.Bool.{OnTrue}
use Rattle.igp_cost.specs.declared.least_trees.link.Link.{Link}
use Rattle.igp_cost.specs.Labels.{addr_at}
use Rattle.igp_cost.specs.Placed.{tree_in, IsHeldAt}
use Rattle.igp_cost.specs.Offers.{IsSettledOver}
use Rattle.igp_cost.proofs.least_trees.rooted.RootedGraph.is_settled_around.Given as goal

abbrev pub invariant-loop-i : goal.invariant-loop-i
invariant-loop-i l = record {
  held : OnTrue l.held (IsHeldAt l.self.nodes.now l.self.links.now l.self.source l.rows l.at);
  each : (k : ℕ) (link : Link) → l.initial.i ≤ k → k < l.i → k < length l.self.links.now →
      slice_index_or l.self.links.now k link ≡ link →
      IsSettledOver l.self.nodes.now l.self.links.now (tree_in l.self.nodes.now l.self.source l.before)
      (tree_in l.self.nodes.now l.self.source l.rows) (addr_at l.self.nodes.now l.at) link;
}
