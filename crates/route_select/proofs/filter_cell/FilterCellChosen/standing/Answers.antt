use Rattle.std.proofs.Common.{Some, ap, sym, subst, ◌∙◌}
use Rattle.route_select.specs.Selection.{IsFrom, Standings, standing_from}
use Rattle.route_select.specs.Entries.{standing_at}
use Rattle.route_select.proofs.EntryLemmas.{each_at, find_gap, find_position, get_of, same_source}
use Rattle.route_select.proofs.filter_cell.FilterCellChosen.standing.Goals as goal

pub returns-in-Ok-clause-known : goal.returns-in-Ok-clause-known
returns-in-Ok-clause-known c =
    let es = c.self.inside.entries.items in
    let is = rw c.deref.ensures.value at c.in-Ok.ensures.found in
    ap Some (c.standing_at.ensures ∙ ap (λ xs. standing_at xs c.in-Ok.at) c.deref-in-Ok.ensures.value)
    ∙ sym (get_of es c.args.source c.self.invariant ∙ find_position es c.args.source _ is)
    ∙ ap (λ (m : Standings). standing_from m c.args.source) c.self.view_is

pub returns-in-Ok-clause-from : goal.returns-in-Ok-clause-from
returns-in-Ok-clause-from c =
    let es = c.self.inside.entries.items in
    let is = rw c.deref.ensures.value at c.in-Ok.ensures.found in
    subst (IsFrom c.args.source)
    (sym (c.standing_at.ensures ∙ ap (λ xs. standing_at xs c.in-Ok.at) c.deref-in-Ok.ensures.value))
    (subst (λ s. IsFrom s (standing_at es c.in-Ok.at)) (sym (same_source c.args.source _ is.here))
    (each_at es c.in-Ok.at is.in_range c.self.invariant.own))

pub returns-in-Err-clause-known : goal.returns-in-Err-clause-known
returns-in-Err-clause-known c =
    let es = c.self.inside.entries.items in
    let is = rw c.deref.ensures.value at c.in-Err.ensures.absent in
    sym (get_of es c.args.source c.self.invariant ∙ find_gap es c.args.source _ c.self.invariant.in_order is)
    ∙ ap (λ (m : Standings). standing_from m c.args.source) c.self.view_is
