use Rattle.std.proofs.Common.{ℕ, ◌<◌, length, arith, All, sym, subst, ◌∙◌}
use Rattle.std.specs.BinaryHeap.{heap_items}
use Rattle.std.specs.declared.cmp.Reverse.{Reverse}
use Rattle.net_prefix.specs.declared.addr.Addr.{Addr}
use Rattle.std.proofs.lemmas.List.Elements.{All-cons}
use Rattle.std.proofs.lemmas.List.Sorted.{All-permutation}
use Rattle.igp_cost.specs.Labels.{AreBackedLabels, IsBounded}
use Rattle.igp_cost.proofs.Kernel.{backed_alone, bounded_from, written_back}
use Rattle.igp_cost.proofs.least_trees.rooted.RootedGraph.labels.Goals as goal

pub explore-requires-clause-queued : goal.explore-requires-clause-queued
explore-requires-clause-queued c =
    let P : Reverse (ℕ × Addr × ℕ) → Type 0 = λ e. e.0.2 < length c.args.self.now.nodes.now in
    let none : All P (heap_items c.new-queue.result) = rw c.new-queue.ensures.items (λ k d lt. absurd (omega arith)) in
    All-permutation P _ (heap_items c.push.new.self) c.in_ok-push.ensures.permutation
    (All-cons P _ (heap_items c.new-queue.result) c.args.self.now.inside none)

pub explore-requires-clause-bounded : goal.explore-requires-clause-bounded
explore-requires-clause-bounded c =
    let first = backed_alone c.args.self.now.nodes.now c.args.self.now.source c.args.self.now.links.now
    c.in_ok-labels.labels.items c.in_ok-labels.ensures.same_length c.in_ok-labels.ensures.start
    c.in_ok-labels.ensures.alone in
    subst (IsBounded c.args.self.now.nodes.now) (sym c.deref_mut.ensures.value)
    (bounded_from c.args.self.now.nodes.now c.args.self.now.source c.args.self.now.links.now
    c.in_ok-labels.labels.items first)

pub settle-requires : goal.settle-requires
settle-requires c =
    let Backed = AreBackedLabels c.args.self.now.nodes.now c.args.self.now.source c.args.self.now.links.now in
    let labels = c.in_ok-labels.labels.items in
    let first = backed_alone c.args.self.now.nodes.now c.args.self.now.source c.args.self.now.links.now labels
    c.in_ok-labels.ensures.same_length c.in_ok-labels.ensures.start c.in_ok-labels.ensures.alone in
    let explored = c.explore.ensures.backed (subst Backed (sym c.deref_mut.ensures.value) first) in
    let written = written_back c.in_ok-labels.labels.len c.explore.new.labels labels (c.explore.auto.labels
    ∙ c.deref_mut.ensures.len) in
    subst Backed (sym (c.deref_mut-2.ensures.value ∙ written)) explored
