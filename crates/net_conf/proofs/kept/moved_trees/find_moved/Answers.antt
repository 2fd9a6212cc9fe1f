use Rattle.std.proofs.Common.{◌≡◌, ◌∙◌, ◌+◌, ◌++◌, List, take, sym, ap, subst}
use Rattle.std.specs.List.{AllByRecursion}
use Rattle.net_prefix.specs.declared.addr.Addr.{Addr}
use Rattle.igp_cost.specs.Trees.{Reached}
use Rattle.shared_map.specs.EntryChunks.{entries_in}
use Rattle.net_conf.specs.Kept.{WasTreeOf}
use Rattle.net_conf.specs.MovedTrees.{AreMoved}
use Rattle.net_conf.proofs.Carry.{was_at, all_from_each, all_of_chunk, one_chunk_more}
use Rattle.net_conf.proofs.kept.moved_trees.find_moved.Goals as goal

pub with_moved-requires : goal.with_moved-requires
with_moved-requires c =
    let change = c.args.change.now in
    let graph = c.args.graph.now in
    let old = c.args.old.now in
    let P : Addr × Reached → Type 0 = λ e. WasTreeOf change graph.nodes graph.edges e.0 e.1 in
    let all : AllByRecursion P (entries_in old) =
    all_from_each P (entries_in old)
    (λ i d lt. was_at change graph.nodes graph.edges (entries_in old) c.requires.ordered c.requires.were i d lt) in
    subst (AllByRecursion P) (sym (c.as_slice.ensures.value ∙ c.chunk-item.is))
    (all_of_chunk P old c.loop-chunk.chunk-index c.chunk-item.result all c.loop-chunk-test.true)

pub loop-chunk-preserved : goal.loop-chunk-preserved
loop-chunk-preserved c =
    let old = c.args.old.now in
    let at = c.loop-chunk.chunk-index in
    let here : List (Addr × Reached) = c.chunk-item.result in
    let more : entries_in (take (at + 1) old) ≡ entries_in (take at old) ++ c.as_slice.result.now =
    one_chunk_more old at here c.loop-chunk-test.true
    ∙ ap (λ es. entries_in (take at old) ++ es) (sym (c.as_slice.ensures.value ∙ c.chunk-item.is)) in
    subst (λ es. AreMoved c.args.graph.now es c.in_ok-moved.moved.items) (sym more)
    (c.in_ok-moved.ensures (entries_in (take at old)) c.loop-chunk.invariant)
