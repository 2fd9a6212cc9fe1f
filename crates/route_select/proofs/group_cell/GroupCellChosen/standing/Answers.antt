use Rattle.std.proofs.Common.{Some, option_copied, ap, sym, subst, ◌∙◌}
use Rattle.route_select.specs.Selection.{IsFrom, Standings, standing_from}
use Rattle.route_select.specs.Entries.{standing_at}
use Rattle.route_select.proofs.EntryLemmas.{each_at, same_source}
use Rattle.route_select.proofs.GroupMap.{get_from}
use Rattle.route_select.proofs.group_cell.GroupCellChosen.standing.Goals as goal

pub returns-in_err-at-clause-known : goal.returns-in_err-at-clause-known
returns-in_err-at-clause-known c =
    let es = c.self.inside.entries.items in
    let absent = rw c.deref.ensures.value at c.in_err-at.ensures.absent in
    ap option_copied c.from_residual.ensures
    ∙ sym (get_from es c.args.source ∙ absent)
    ∙ ap (λ (m : Standings). standing_from m c.args.source) c.self.view_is

pub returns-clause-known : goal.returns-clause-known
returns-clause-known c =
    let es = c.self.inside.entries.items in
    let is = rw c.deref.ensures.value at c.in_ok-at.ensures.found in
    ap Some (c.standing_at.ensures ∙ ap (λ xs. standing_at xs c.in_ok-at.at) c.deref-2.ensures.value)
    ∙ sym (get_from es c.args.source ∙ is.found)
    ∙ ap (λ (m : Standings). standing_from m c.args.source) c.self.view_is

pub returns-clause-from : goal.returns-clause-from
returns-clause-from c =
    let es = c.self.inside.entries.items in
    let is = rw c.deref.ensures.value at c.in_ok-at.ensures.found in
    subst (IsFrom c.args.source)
    (sym (c.standing_at.ensures ∙ ap (λ xs. standing_at xs c.in_ok-at.at) c.deref-2.ensures.value))
    (subst (λ s. IsFrom s (standing_at es c.in_ok-at.at)) (sym (same_source c.args.source _ is.tied))
    (each_at es c.in_ok-at.at is.in_range c.self.invariant.own))
