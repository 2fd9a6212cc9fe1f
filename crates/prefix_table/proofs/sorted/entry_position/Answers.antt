-- The search ends before the first entry whose key is not below the prefix.
use Rattle.std.proofs.Common.{rules, sym, ap, ◌∙◌, is_some}
use Rattle.std.specs.Ordering.{is_eq, is_gt}
use Rattle.std.proofs.lemmas.List.Sorted.{IsPartitionPoint-from_clause}
use Rattle.net_prefix.specs.Prefix.{prefix_cmp}
use Rattle.prefix_table.proofs.Entries.{T_of, parted, low_greater, placed, missing, past_end, read_some, read_none}
use Rattle.prefix_table.proofs.sorted.entry_position.Goals as goal

pub returns-in-Some-clause-found : goal.returns-in-Some-clause-found
returns-in-Some-clause-found g c =
    let sorted = T_of _ c.requires in
    let at = IsPartitionPoint-from_clause (λ e. is_gt (prefix_cmp c.args.prefix e.0)) c.args.entries.now
    c.partition_point-at.result c.partition_point-at.ensures.partitioned
    (parted (λ k. is_gt (prefix_cmp c.args.prefix k)) c.args.entries.now (low_greater c.args.prefix) sorted)
    (λ a r q k. search rules) in
    placed c.args.entries.now c.args.prefix c.partition_point-at.result c.in-Some.entry.now at
    (read_some c.args.entries.now c.partition_point-at.result c.in-Some.entry.now c.in-Some.ensures.lookup.0
    c.in-Some.ensures.lookup.1) (sym (ap is_eq c.cmp.ensures) ∙ sym c.is_eq.ensures ∙ c.if-is_eq.true)

pub returns-in_default-clause-absent : goal.returns-in_default-clause-absent
returns-in_default-clause-absent g c =
    let sorted = T_of _ c.requires in
    let at = IsPartitionPoint-from_clause (λ e. is_gt (prefix_cmp c.args.prefix e.0)) c.args.entries.now
    c.partition_point-at.result c.partition_point-at.ensures.partitioned
    (parted (λ k. is_gt (prefix_cmp c.args.prefix k)) c.args.entries.now (low_greater c.args.prefix) sorted)
    (λ a r q k. search rules) in
    missing c.args.entries.now c.args.prefix c.partition_point-at.result c.in-Some.entry.now sorted at
    (read_some c.args.entries.now c.partition_point-at.result c.in-Some.entry.now c.in-Some.ensures.lookup.0
    c.in-Some.ensures.lookup.1) (sym (ap is_eq c.cmp.ensures) ∙ sym c.is_eq.ensures ∙ c.if-is_eq.false)

pub returns-in_default-2-clause-absent : goal.returns-in_default-2-clause-absent
returns-in_default-2-clause-absent g c =
    let sorted = T_of _ c.requires in
    let at = IsPartitionPoint-from_clause (λ e. is_gt (prefix_cmp c.args.prefix e.0)) c.args.entries.now
    c.partition_point-at.result c.partition_point-at.ensures.partitioned
    (parted (λ k. is_gt (prefix_cmp c.args.prefix k)) c.args.entries.now (low_greater c.args.prefix) sorted)
    (λ a r q k. search rules) in
    past_end c.args.entries.now c.args.prefix c.partition_point-at.result at
    (read_none c.args.entries.now c.partition_point-at.result (sym (ap is_some c.in_default.is)
    ∙ c.get.ensures.lookup.0)) c.partition_point-at.ensures.bound
