use Rattle.std.proofs.Common.{ap, ◌∙◌}
use Rattle.cell_engine.specs.Becomings.{edit_at}
use Rattle.cell_engine.proofs.Deciding.{made_all}
use Rattle.cell_engine.proofs.edits.moved_cells.decide_in_threads.Goals as goal

pub returns : goal.returns
returns g c =
    let slice = ap (λ it. it.slice.now) (ap (λ it. it.base) c.map.ensures.base ∙ c.with_min_len.ensures.base)
    ∙ c.par_iter.ensures in
    let h = c.in_ok-decided.ensures in
    made_all edit_at _ (λ z y p. p) c.in_ok-decided.decided c.args.moved.now h.1.0 h.0 _ (h.1.1 ∙ slice) h.1.2 h.2
