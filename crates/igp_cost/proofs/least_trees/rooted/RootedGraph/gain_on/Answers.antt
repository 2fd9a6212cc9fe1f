use Rattle.std.proofs.Common.{ℕ, ◌<◌, length, rules}
use Rattle.std.specs.BinaryHeap.{heap_items}
use Rattle.std.specs.declared.cmp.Reverse.{Reverse}
use Rattle.net_prefix.specs.declared.addr.Addr.{Addr}
use Rattle.std.proofs.lemmas.List.Elements.{All-tail}
use Rattle.std.proofs.lemmas.List.Sorted.{All-permutation}
use Rattle.igp_cost.proofs.least_trees.rooted.RootedGraph.gain_on.Goals as goal
use Rattle.igp_cost.proofs.least_trees.rooted.RootedGraph.gain_on.Goals.{then-eq+in_ok-gain_from, else-eq}

pub gain_from-requires-clause-queued : goal.gain_from-requires-clause-queued
gain_from-requires-clause-queued c =
    let P : Reverse (ℕ × Addr × ℕ) → Type 0 = λ e. e.0.2 < length c.args.self.now.nodes.now in
    All-tail P c.in-Some.field-0 (heap_items c.pop.new.self)
    (All-permutation P (heap_items c.loop.queue) _ c.in-Some.ensures.permutation c.loop.invariant.queued)

pub loop-preserved : goal.loop-preserved
loop-preserved c =
    let P : Reverse (ℕ × Addr × ℕ) → Type 0 = λ e. e.0.2 < length c.args.self.now.nodes.now in
    let left = All-tail P c.in-Some.field-0 (heap_items c.pop.new.self)
    (All-permutation P (heap_items c.loop.queue) _ c.in-Some.ensures.permutation c.loop.invariant.queued) in
    elim c.if-eq.branch [
      | then-eq+in_ok-gain_from w ↦ rw (w.rows-is, w.queue-is) (record { placed = search rules; queued = search rules })
      | else-eq w ↦ rw (w.rows-is, w.queue-is) (record { placed = c.loop.invariant.placed; queued = left })
    ]
