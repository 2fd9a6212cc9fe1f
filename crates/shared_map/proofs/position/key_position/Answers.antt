-- The search ends before the first key that is not below this one.
use Rattle.std.proofs.Common.{rules, sym, ap, ◌∙◌, is_some}
use Rattle.std.specs.Ordering.{is_eq, is_gt}
use Rattle.std.proofs.lemmas.List.Sorted.{IsPartitionPoint-from_clause}
use Rattle.shared_map.proofs.Halving.{keys_ascend, parted, are_below, here_less, key_found, key_gap, key_gap_end, read_some, read_none}
use Rattle.shared_map.proofs.position.key_position.Goals as goal

pub returns-in-Some-clause-found : goal.returns-in-Some-clause-found
returns-in-Some-clause-found g c =
    let total = g.met.K.Ord.total in
    let ks = c.args.keys.now in
    let at = IsPartitionPoint-from_clause (λ e. is_gt (g.K.Ord.cmp c.args.key.now e)) ks c.partition_point-at.result
    c.partition_point-at.ensures.partitioned
    (parted total (λ k. k) c.args.key.now ks (keys_ascend total ks c.requires)) (λ a r q k. search rules) in
    key_found total ks c.args.key.now c.partition_point-at.result c.in-Some.other.now
    (are_below total (λ k. k) ks c.args.key.now c.partition_point-at.result at)
    (read_some ks c.partition_point-at.result c.in-Some.other.now c.in-Some.ensures.lookup.0 c.in-Some.ensures.lookup.1)
    (sym (ap is_eq c.cmp.ensures) ∙ sym c.is_eq.ensures ∙ c.if-is_eq.true)

pub returns-in_default-clause-absent : goal.returns-in_default-clause-absent
returns-in_default-clause-absent g c =
    let total = g.met.K.Ord.total in
    let ks = c.args.keys.now in
    let at = IsPartitionPoint-from_clause (λ e. is_gt (g.K.Ord.cmp c.args.key.now e)) ks c.partition_point-at.result
    c.partition_point-at.ensures.partitioned
    (parted total (λ k. k) c.args.key.now ks (keys_ascend total ks c.requires)) (λ a r q k. search rules) in
    let is = read_some ks c.partition_point-at.result c.in-Some.other.now c.in-Some.ensures.lookup.0
    c.in-Some.ensures.lookup.1 in
    key_gap total ks c.args.key.now c.partition_point-at.result c.in-Some.other.now (keys_ascend total ks c.requires)
    (are_below total (λ k. k) ks c.args.key.now c.partition_point-at.result at)
    is (here_less total (λ k. k) ks c.args.key.now c.partition_point-at.result c.in-Some.other.now at is
    (sym (ap is_eq c.cmp.ensures) ∙ sym c.is_eq.ensures ∙ c.if-is_eq.false))

pub returns-in_default-2-clause-absent : goal.returns-in_default-2-clause-absent
returns-in_default-2-clause-absent g c =
    let total = g.met.K.Ord.total in
    let ks = c.args.keys.now in
    let at = IsPartitionPoint-from_clause (λ e. is_gt (g.K.Ord.cmp c.args.key.now e)) ks c.partition_point-at.result
    c.partition_point-at.ensures.partitioned
    (parted total (λ k. k) c.args.key.now ks (keys_ascend total ks c.requires)) (λ a r q k. search rules) in
    key_gap_end total ks c.args.key.now c.partition_point-at.result
    (are_below total (λ k. k) ks c.args.key.now c.partition_point-at.result at)
    (read_none ks c.partition_point-at.result (sym (ap is_some c.in_default.is) ∙ c.get.ensures.lookup.0))
    c.partition_point-at.ensures.bound
