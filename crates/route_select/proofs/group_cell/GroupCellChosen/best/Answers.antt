use Rattle.std.proofs.Common.{ap, ◌∙◌}
use Rattle.route_select.specs.Selection.{Standings, best_of}
use Rattle.route_select.specs.Entries.{candidate_at}
use Rattle.route_select.proofs.GroupMap.{best_is}
use Rattle.route_select.proofs.group_cell.GroupCellChosen.best.Goals as goal

pub returns : goal.returns
returns c =
    let is = c.self.invariant in
    c.candidate_at.ensures
    ∙ ap (λ xs. candidate_at xs c.self.inside.best) c.deref.ensures.value
    ∙ best_is c.self.inside.med_always c.self.inside.entries.items _ is.distinct is.own is.best
    ∙ ap (λ (m : Standings). best_of m) c.self.view_is
