-- The search ends before the first entry after the prefix.
use Rattle.std.proofs.Common.{rules, sym, ◌∙◌, not}
use Rattle.std.proofs.lemmas.List.Sorted.{IsPartitionPoint-from_clause}
use Rattle.prefix_table.specs.Tables.{is_after}
use Rattle.prefix_table.proofs.Entries.{T_of, parted, low_not_after, find_at, read_some, read_none}
use Rattle.prefix_table.proofs.sorted.next_in.Goals as goal

pub returns-in-Some : goal.returns-in-Some
returns-in-Some g c =
    let at = IsPartitionPoint-from_clause (λ e. not (is_after c.args.after e.0)) c.args.entries.now
    c.partition_point-at.result c.partition_point-at.ensures.partitioned
    (parted (λ k. not (is_after c.args.after k)) c.args.entries.now (low_not_after c.args.after) (T_of _ c.requires))
    (λ a r q k. search rules) in
    sym (find_at (λ e. is_after c.args.after e.0) c.args.entries.now c.partition_point-at.result at
    ∙ read_some c.args.entries.now c.partition_point-at.result c.in-Some.entry.now c.in-Some.ensures.lookup.0
    c.in-Some.ensures.lookup.1)

pub returns-in-None : goal.returns-in-None
returns-in-None g c =
    let at = IsPartitionPoint-from_clause (λ e. not (is_after c.args.after e.0)) c.args.entries.now
    c.partition_point-at.result c.partition_point-at.ensures.partitioned
    (parted (λ k. not (is_after c.args.after k)) c.args.entries.now (low_not_after c.args.after) (T_of _ c.requires))
    (λ a r q k. search rules) in
    sym (find_at (λ e. is_after c.args.after e.0) c.args.entries.now c.partition_point-at.result at
    ∙ read_none c.args.entries.now c.partition_point-at.result c.in-None.ensures.lookup.0)
