-- The chunk before the first that does not begin by the key, or else the first.
use Rattle.std.proofs.Common.{◌∙◌, ◌+◌, rules, arith, length, take, drop, sym, ap}
use Rattle.std.proofs.lemmas.List.Sorted.{IsPartitionPoint-from_clause}
use Rattle.shared_map.specs.Chunks.{starts_by}
use Rattle.shared_map.proofs.Splits.{parted, chunk_at, no_chunk}
use Rattle.shared_map.proofs.chunks.split.Goals as goal

pub returns-in-Some : goal.returns-in-Some
returns-in-Some g c =
    let total = g.met.K.Ord.total in
    let cs = c.args.chunks.now in
    let at = IsPartitionPoint-from_clause (λ x. starts_by g.K.Ord.cmp c.args.key.now x) cs c.partition_point-past.result
    c.partition_point-past.ensures.partitioned
    (parted g.K.Ord.cmp total c.args.key.now cs c.requires) (λ a r q k. search rules) in
    rw c.as_slice.ensures
    (chunk_at g.K.Ord.cmp total c.args.key.now cs c.partition_point-past.result c.requires
    (λ j d lt. at.0 j d (omega arith) lt) (λ j d le lt. at.1 j d le lt)
    c.split_at.result.0.now c.split_at.result.1.now
    (c.split_at.ensures.front ∙ ap (λ n. take n cs) c.saturating_sub.ensures) (c.split_at.ensures.back
    ∙ ap (λ n. drop n cs) c.saturating_sub.ensures)
    c.in-Some.chunk.now c.in-Some.after.now c.in-Some.ensures.cases.0)

pub returns-in-None : goal.returns-in-None
returns-in-None g c =
    let cs = c.args.chunks.now in
    no_chunk g.K.Ord.cmp g.met.K.Ord.total c.args.key.now cs c.partition_point-past.result
    c.partition_point-past.ensures.bound
    c.split_at.result.0.now c.split_at.result.1.now
    (c.split_at.ensures.front ∙ ap (λ n. take n cs) c.saturating_sub.ensures) (c.split_at.ensures.back
    ∙ ap (λ n. drop n cs) c.saturating_sub.ensures)
    (ap (λ n. length c.split_at.result.1.now + n) (sym c.saturating_sub.ensures) ∙ c.split_at.ensures.back_len)
    c.in-None.ensures.cases
