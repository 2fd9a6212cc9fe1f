use Rattle.std.proofs.Common.{not, rules}
use Rattle.std.proofs.lemmas.List.Sorted.{IsPartitionPoint-from_clause}
use Rattle.route_select.specs.declared.candidate.Source.{Source}
use Rattle.route_select.specs.declared.candidate.Standing.{Standing}
use Rattle.route_select.specs.Groups.{before}
use Rattle.route_select.proofs.GroupPositions.{slot_parted, slot_of}
use Rattle.route_select.proofs.groups.slot.Goals as goal

pub returns : goal.returns
returns c =
    let e : Source × Standing = (c.args.source, c.args.standing.now) in
    let point = IsPartitionPoint-from_clause (λ x. not (before c.args.med_always e x))
    _ _ c.partition_point.ensures.partitioned (slot_parted c.args.med_always c.args.entries.now e c.requires)
    (λ a r q k. search rules) in
    slot_of c.args.med_always c.args.entries.now e _ c.partition_point.ensures.bound point
