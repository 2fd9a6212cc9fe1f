use Rattle.std.proofs.Common.{sym}
use Rattle.route_select.proofs.GroupPositions.{start_some, start_same, start_leads}
use Rattle.route_select.proofs.groups.leader.Goals as goal

pub unreachable-requires : goal.unreachable-requires
unreachable-requires c =
    start_some c.args.med_always c.args.entries.now _ c.args.like.now c.requires.ranked c.requires.member
    (rw c.group_rank.ensures.value at c.group_start-start.ensures) (sym c.in-None.ensures)

pub returns-clause-leads : goal.returns-clause-leads
returns-clause-leads c =
    start_leads c.args.med_always c.args.entries.now _ c.args.like.now _ c.requires.ranked c.requires.member
    (rw c.group_rank.ensures.value at c.group_start-start.ensures) (sym c.in-Some.ensures)

pub returns-clause-same : goal.returns-clause-same
returns-clause-same c = start_same c.args.med_always c.args.entries.now _ c.args.like.now _ c.requires.ranked
    c.requires.member (rw c.group_rank.ensures.value at c.group_start-start.ensures) (sym c.in-Some.ensures)
