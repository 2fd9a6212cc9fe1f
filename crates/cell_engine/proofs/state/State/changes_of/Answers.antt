use Rattle.std.proofs.Common.{map, ap, ◌∙◌}
use Rattle.cell_engine.specs.CellEdits.{whole_changes}
use Rattle.cell_engine.specs.Becomings.{edit_at}
use Rattle.cell_engine.proofs.Deciding.{decided_all}
use Rattle.cell_engine.proofs.Whole.{whole_all}
use Rattle.cell_engine.proofs.Seen.{when_ok}
use Rattle.cell_engine.proofs.state.State.changes_of.Goals as goal

pub returns : goal.returns
returns g c =
    let e = c.args.self.now in
    let ts = e.tables in
    let becomings = c.args.becomings.now in
    let moved = c.as_slice.ensures ∙ c.in_ok-moved.ensures in
    when_ok c.decide.result _ _ (λ made is. ap (whole_changes ts) (is ∙ ap (map edit_at) moved)
    ∙ whole_all e c.facts.ensures.sound c.facts.ensures.configured becomings c.requires
    ∙ decided_all ts becomings) c.decide.ensures
