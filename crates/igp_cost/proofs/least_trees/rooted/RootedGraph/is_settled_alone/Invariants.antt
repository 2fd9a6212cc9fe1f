use Rattle.std.proofs.Common.{◌≡◌, ℕ, ◌<◌, ◌≤◌, length}
use Rattle.std.specs.Prelude.{slice_index_or}
use Rattle.igp_cost.specs.declared.least_trees.link.Link.{Link}
use Rattle.igp_cost.specs.Labels.{addr_at}
use Rattle.igp_cost.specs.Offers.{IsQuietOver}
use Rattle.igp_cost.proofs.least_trees.rooted.RootedGraph.is_settled_alone.Given as goal

abbrev pub invariant-loop-i : goal.invariant-loop-i
invariant-loop-i l = (k : ℕ) (link : Link) → l.initial.i ≤ k → k < l.i → k < length l.self.links.now →
    slice_index_or l.self.links.now k link ≡ link →
    IsQuietOver l.self.nodes.now l.tree (addr_at l.self.nodes.now l.at) link
