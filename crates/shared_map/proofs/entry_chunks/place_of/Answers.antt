-- The chunk before the first that does not begin by the key, or else the first.
use Rattle.std.proofs.Common.{rules, arith, sym, subst}
use Rattle.std.proofs.lemmas.List.Sorted.{IsPartitionPoint-from_clause}
use Rattle.std.specs.Map.{keys_of}
use Rattle.shared_map.specs.Chunks.{starts_by}
use Rattle.shared_map.specs.EntryChunks.{IsPlace}
use Rattle.shared_map.proofs.EntryPlaces.{entries_parted, place_found}
use Rattle.shared_map.proofs.entry_chunks.place_of.Goals as goal

pub returns : goal.returns
returns g c =
    let total = g.met.K.Ord.total in
    let cmp = g.K.Ord.cmp in
    let cs = c.args.chunks.now in
    let q = c.args.key.now in
    let past = c.partition_point-past.result in
    let at = IsPartitionPoint-from_clause (λ x. starts_by cmp q (keys_of x)) cs past
    c.partition_point-past.ensures.partitioned
    (entries_parted cmp q total cs c.requires.chunks) (λ a r q k. search rules) in
    subst (IsPlace cmp cs q) (sym c.saturating_sub.ensures)
    (place_found cmp q total cs past c.requires.some c.partition_point-past.ensures.bound c.requires.chunks
    (λ j d lt. at.0 j d (omega arith) lt) (λ j d le lt. at.1 j d le lt))
