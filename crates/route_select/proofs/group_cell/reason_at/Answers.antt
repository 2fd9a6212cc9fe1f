use Rattle.std.proofs.Common.{Some, ap, sym, subst, ◌∙◌}
use Rattle.route_select.specs.Selection.{reason_for, considered_in}
use Rattle.route_select.specs.Groups.{IsBest}
use Rattle.route_select.proofs.Leading.{reason_by_three, least_leader_left}
use Rattle.route_select.proofs.EntryLemmas.{stands_at, stands_in}
use Rattle.route_select.proofs.GroupMap.{best_moved, leads_moved}
use Rattle.route_select.proofs.group_cell.reason_at.Goals as goal

pub leader-requires-clause-member : goal.leader-requires-clause-member
leader-requires-clause-member c = stands_in _ _ c.index-entries-at.result _ c.requires.in_range c.in-Considered.is

pub unreachable-requires : goal.unreachable-requires
unreachable-requires c =
    let es = c.args.entries.now in
    let none = subst (IsBest c.args.med_always (considered_in es)) (sym c.in-None.ensures) c.requires.best in
    none c.in-Considered.c (stands_in es _ c.index-entries-at.result _ c.requires.in_range c.in-Considered.is)

pub returns-in-Some : goal.returns-in-Some
returns-in-Some c = λ set same.
    let always = c.args.med_always in
    let es = c.args.entries.now in
    let x = c.in-Considered.c in
    let b = c.in-Some.b.now in
    let is = best_moved always set (considered_in es) (Some b) same
    (subst (IsBest always (considered_in es)) (sym c.in-Some.ensures) c.requires.best) in
    c.first_worse.ensures
    ∙ sym (reason_by_three always set b c.leader.result.now x (least_leader_left always set b is.0 is.1)
    (leads_moved always set (considered_in es) c.leader.result.now same c.leader.ensures.leads)
    (same.back x (stands_in es _ c.index-entries-at.result _ c.requires.in_range c.in-Considered.is))
    c.leader.ensures.same)
    ∙ ap (reason_for always set)
    (sym (stands_at es _ c.index-entries-at.result _ c.requires.in_range c.in-Considered.is))
