-- The search ends before the first entry whose key is not below this one.
use Rattle.std.proofs.Common.{rules, sym, ap, ◌∙◌, is_some}
use Rattle.std.specs.Ordering.{is_eq, is_gt}
use Rattle.std.proofs.lemmas.List.Sorted.{IsPartitionPoint-from_clause}
use Rattle.shared_map.proofs.Halving.{ascend, parted, are_below, here_less, found, gap, gap_end, read_some, read_none}
use Rattle.shared_map.proofs.position.entry_position.Goals as goal

pub returns-in-Some-clause-found : goal.returns-in-Some-clause-found
returns-in-Some-clause-found g c =
    let total = g.met.K.Ord.total in
    let es = c.args.entries.now in
    let at = IsPartitionPoint-from_clause (λ e. is_gt (g.K.Ord.cmp c.args.key.now e.0)) es c.partition_point-at.result
    c.partition_point-at.ensures.partitioned
    (parted total (λ e. e.0) c.args.key.now es (ascend total es c.requires)) (λ a r q k. search rules) in
    found total es c.args.key.now c.partition_point-at.result c.in-Some.entry.now
    (are_below total (λ e. e.0) es c.args.key.now c.partition_point-at.result at)
    (read_some es c.partition_point-at.result c.in-Some.entry.now c.in-Some.ensures.lookup.0 c.in-Some.ensures.lookup.1)
    (sym (ap is_eq c.cmp.ensures) ∙ sym c.is_eq.ensures ∙ c.if-is_eq.true)

pub returns-in_default-clause-absent : goal.returns-in_default-clause-absent
returns-in_default-clause-absent g c =
    let total = g.met.K.Ord.total in
    let es = c.args.entries.now in
    let at = IsPartitionPoint-from_clause (λ e. is_gt (g.K.Ord.cmp c.args.key.now e.0)) es c.partition_point-at.result
    c.partition_point-at.ensures.partitioned
    (parted total (λ e. e.0) c.args.key.now es (ascend total es c.requires)) (λ a r q k. search rules) in
    let is = read_some es c.partition_point-at.result c.in-Some.entry.now c.in-Some.ensures.lookup.0
    c.in-Some.ensures.lookup.1 in
    gap total es c.args.key.now c.partition_point-at.result c.in-Some.entry.now (ascend total es c.requires)
    (are_below total (λ e. e.0) es c.args.key.now c.partition_point-at.result at)
    is (here_less total (λ e. e.0) es c.args.key.now c.partition_point-at.result c.in-Some.entry.now at is
    (sym (ap is_eq c.cmp.ensures) ∙ sym c.is_eq.ensures ∙ c.if-is_eq.false))

pub returns-in_default-2-clause-absent : goal.returns-in_default-2-clause-absent
returns-in_default-2-clause-absent g c =
    let total = g.met.K.Ord.total in
    let es = c.args.entries.now in
    let at = IsPartitionPoint-from_clause (λ e. is_gt (g.K.Ord.cmp c.args.key.now e.0)) es c.partition_point-at.result
    c.partition_point-at.ensures.partitioned
    (parted total (λ e. e.0) c.args.key.now es (ascend total es c.requires)) (λ a r q k. search rules) in
    gap_end total es c.args.key.now c.partition_point-at.result
    (are_below total (λ e. e.0) es c.args.key.now c.partition_point-at.result at)
    (read_none es c.partition_point-at.result (sym (ap is_some c.in_default.is) ∙ c.get.ensures.lookup.0))
    c.partition_point-at.ensures.bound
