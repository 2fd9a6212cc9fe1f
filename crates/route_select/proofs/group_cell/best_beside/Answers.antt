use Rattle.std.proofs.Common.{◌≡◌, true, ◌+◌, nat_lt, if◌then◌else◌, sym, subst, ap, ◌∙◌}
use Rattle.std.specs.List.{insert}
use Rattle.route_select.specs.Selection.{candidate_of, considered_in}
use Rattle.route_select.specs.Entries.{candidate_at}
use Rattle.route_select.specs.Groups.{IsBest, keeps_best, entry_at}
use Rattle.route_select.proofs.Beside.{read_moved, best_kept}
use Rattle.route_select.proofs.group_cell.best_beside.Goals as goal

pub returns-then-keeps_best : goal.returns-then-keeps_best
returns-then-keeps_best c =
    let always = c.args.med_always in
    let es = c.args.entries.now in
    let at = c.args.at in
    let is = c.requires.beside in
    let place = c.moved-place.result in
    let stands : candidate_at es place ≡ candidate_at is.others c.args.best =
    ap (candidate_at es) c.moved-place.ensures
    ∙ ap (λ xs. candidate_at xs (if nat_lt c.args.best at then c.args.best else c.args.best + 1)) is.beside
    ∙ read_moved is.others at c.args.best (entry_at es at) is.in_range in
    let keeps : keeps_best always (candidate_of (entry_at es at).1) (candidate_at is.others c.args.best) ≡ true =
    ap (keeps_best always (candidate_at es at)) (sym stands)
    ∙ sym (λ i. keeps_best always (c.candidate_at.ensures i) (c.candidate_at-2.ensures i))
    ∙ sym c.keeps_best.ensures ∙ c.if-keeps_best.true in
    subst (λ xs. IsBest always (considered_in xs) (candidate_at es place)) (sym is.beside)
    (subst (IsBest always (considered_in (insert is.others at (entry_at es at)))) (sym stands)
    (best_kept always is.others at c.args.best (entry_at es at) is.in_range is.best keeps))
