use Rattle.std.proofs.Common.{ℕ, ◌<◌, length}
use Rattle.std.specs.BinaryHeap.{heap_items}
use Rattle.std.specs.declared.cmp.Reverse.{Reverse}
use Rattle.net_prefix.specs.declared.addr.Addr.{Addr}
use Rattle.std.proofs.lemmas.List.Elements.{All-tail}
use Rattle.std.proofs.lemmas.List.Sorted.{All-permutation}
use Rattle.igp_cost.proofs.least_trees.rooted.RootedGraph.explore.Goals as goal

pub spread-requires-clause-queued : goal.spread-requires-clause-queued
spread-requires-clause-queued c =
    let P : Reverse (ℕ × Addr × ℕ) → Type 0 = λ e. e.0.2 < length c.args.self.now.nodes.now in
    All-tail P c.in-Some.field-0 (heap_items c.pop.new.self)
    (All-permutation P (heap_items c.loop-cost.queue) _ c.in-Some.ensures.permutation c.loop-cost.invariant.queued)

pub loop-cost-preserved : goal.loop-cost-preserved
loop-cost-preserved c =
    let P : Reverse (ℕ × Addr × ℕ) → Type 0 = λ e. e.0.2 < length c.args.self.now.nodes.now in
    record {
      bounded = c.loop-cost.invariant.bounded;
      backed = c.loop-cost.invariant.backed;
      queued = All-tail P c.in-Some.field-0 (heap_items c.pop.new.self)
          (All-permutation P (heap_items c.loop-cost.queue) _ c.in-Some.ensures.permutation
          c.loop-cost.invariant.queued);
    }
