use Rattle.std.proofs.Common.{Some, ap, sym, subst, ◌∙◌}
use Rattle.std.specs.Option.{option_map}
use Rattle.route_select.specs.Selection.{reason_for, reason_in, considered_in, Standings}
use Rattle.route_select.specs.Entries.{standing_at}
use Rattle.route_select.specs.Groups.{SameMembers}
use Rattle.route_select.proofs.GroupMap.{considered_of, get_from, same_members}
use Rattle.route_select.proofs.group_cell.GroupCellChosen.reason.Goals as goal

pub returns-in-Some : goal.returns-in-Some
returns-in-Some c =
    let always = c.self.inside.med_always in
    let es = c.self.inside.entries.items in
    let set = considered_of es in
    let is = rw c.deref.ensures.value at c.in-Some.ensures.found in
    let read = c.deref-in-Some.ensures.value in
    ap Some (c.reason_at.ensures set (subst (λ xs. SameMembers set (considered_in xs)) (sym read)
    (same_members es c.self.invariant.distinct c.self.invariant.own))
    ∙ ap (λ xs. reason_for always set (standing_at xs c.in-Some.at)) read)
    ∙ ap (option_map (reason_for always set)) (sym (get_from es c.args.source ∙ is.found))
    ∙ ap (λ (m : Standings). reason_in m c.args.source) c.self.view_is

pub returns-in-None : goal.returns-in-None
returns-in-None c =
    let es = c.self.inside.entries.items in
    let absent = rw c.deref.ensures.value at c.in-None.ensures.absent in
    ap (option_map (reason_for c.self.inside.med_always (considered_of es))) (sym (get_from es c.args.source ∙ absent))
    ∙ ap (λ (m : Standings). reason_in m c.args.source) c.self.view_is
