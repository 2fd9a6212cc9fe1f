use Rattle.std.proofs.Common.{◌≡◌, ◌∷◌, [], map, Option, option_map, sym, ap, ◌∙◌}
use Rattle.std.specs.Option.{option_to_list}
use Rattle.net_conf.specs.Configuration.{Configuration}
use Rattle.cell_engine.specs.Cells.{Cell}
use Rattle.cell_engine.specs.Changes.{router_changes}
use Rattle.cell_engine.specs.Moves.{moves}
use Rattle.cell_engine.specs.CellEdits.{whole_changes}
use Rattle.cell_engine.specs.Becomings.{Becoming, edit_at, moved_cell}
use Rattle.cell_engine.proofs.Deciding.{decided_cells}
use Rattle.cell_engine.proofs.Whole.{whole_cells}
use Rattle.cell_engine.proofs.Seen.{when_ok}
use Rattle.cell_engine.proofs.state.State.route_changes.Goals as goal

pub returns : goal.returns
returns g c =
    let e = c.args.self.now in
    let before = e.conf in
    let after = c.args.conf.now in
    let r = c.args.router in
    let p = c.args.prefix in
    let h : Cell = c.in-Some.cell.now in
    let own : c.get.result.now ≡ before = c.get.ensures ∙ ap (λ e. e.conf) c.self.view_is in
    let of : Configuration → Becoming = λ k. record { before = k; after = after; address = r } in
    let same = c.in_ok-becoming.ensures ∙ ap of own in
    when_ok c.decide_cell-changes.result _ _ (λ made is.
    ap (whole_changes e.tables) (is ∙ ap (λ (b : Becoming). map edit_at (moved_cell b p h)) same)
    ∙ whole_cells e c.facts.ensures.sound c.facts.ensures.configured after r ((p, h) ∷ []) (sym c.in-Some.ensures, tt)
    ∙ decided_cells (of before) ((p, h) ∷ [])
    ∙ ap (λ (o : Option Cell). router_changes (moves before after) before after r
    (option_to_list (option_map (λ x. (p, x)) o))) c.in-Some.ensures)
    c.decide_cell-changes.ensures
