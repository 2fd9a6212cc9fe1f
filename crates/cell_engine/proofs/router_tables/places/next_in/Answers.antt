-- The search ends before the first entry past the router.
use Rattle.std.proofs.Common.{rules, sym, ap, ◌∙◌, not, option_map}
use Rattle.std.proofs.lemmas.List.Sorted.{IsPartitionPoint-from_clause}
use Rattle.prefix_table.proofs.Entries.{T_of}
use Rattle.cell_engine.specs.RouterTables.{is_past}
use Rattle.cell_engine.proofs.Halving.{parted, low_not_past, find_at, read_some, read_none}
use Rattle.cell_engine.proofs.router_tables.places.next_in.Goals as goal

pub returns-in-Some : goal.returns-in-Some
returns-in-Some g c =
    let at = IsPartitionPoint-from_clause (λ e. not (is_past c.args.past e.0)) c.args.entries.now
    c.partition_point-at.result c.partition_point-at.ensures.partitioned
    (parted (λ k. not (is_past c.args.past k)) c.args.entries.now (low_not_past c.args.past) (T_of _ c.requires))
    (λ a r q k. search rules) in
    sym (ap (option_map (λ e. e.0))
    (find_at (λ e. is_past c.args.past e.0) c.args.entries.now c.partition_point-at.result at
    ∙ read_some c.args.entries.now c.partition_point-at.result c.in-Some.entry.now c.in-Some.ensures.lookup.0
    c.in-Some.ensures.lookup.1))

pub returns-in-None : goal.returns-in-None
returns-in-None g c =
    let at = IsPartitionPoint-from_clause (λ e. not (is_past c.args.past e.0)) c.args.entries.now
    c.partition_point-at.result c.partition_point-at.ensures.partitioned
    (parted (λ k. not (is_past c.args.past k)) c.args.entries.now (low_not_past c.args.past) (T_of _ c.requires))
    (λ a r q k. search rules) in
    sym (ap (option_map (λ e. e.0))
    (find_at (λ e. is_past c.args.past e.0) c.args.entries.now c.partition_point-at.result at
    ∙ read_none c.args.entries.now c.partition_point-at.result c.in-None.ensures.lookup.0))
