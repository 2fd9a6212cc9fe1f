use Rattle.std.proofs.Common.{rules}
use Rattle.std.proofs.lemmas.List.Sorted.{IsPartitionPoint-from_clause}
use Rattle.route_select.specs.Groups.{is_below}
use Rattle.route_select.proofs.GroupPositions.{start_parted, start_of}
use Rattle.route_select.proofs.groups.group_start.Goals as goal

pub returns : goal.returns
returns c =
    let point = IsPartitionPoint-from_clause (is_below c.args.med_always c.args.rank)
    _ _ c.partition_point.ensures.partitioned
    (start_parted c.args.med_always c.args.entries.now c.args.rank c.requires) (λ a r q k. search rules) in
    start_of c.args.med_always c.args.entries.now c.args.rank _ c.partition_point.ensures.bound point
