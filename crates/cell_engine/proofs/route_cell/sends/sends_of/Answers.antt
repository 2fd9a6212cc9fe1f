use Rattle.std.proofs.Common.{◌≡◌, option_copied, ap, sym, ◌∙◌}
use Rattle.std.specs.List.{filter_map}
use Rattle.std.proofs.lemmas.Result.{IfOk-weaker}
use Rattle.cell_engine.specs.Cells.{send_over, sends_of}
use Rattle.cell_engine.specs.Updates.{send_if_up}
use Rattle.cell_engine.proofs.Unchanged.{picked}
use Rattle.cell_engine.proofs.route_cell.sends.sends_of.Goals as goal

pub returns : goal.returns
returns c =
    let old = c.args.old.now in
    let new = c.args.new.now in
    let had = option_copied c.args.had in
    let has = option_copied c.args.has in
    let over_each = send_if_up old new c.args.prefix had has in
    IfOk-weaker c.sends_over.result (λ s. s.items ≡ filter_map over_each c.as_slice.result.now)
    (λ s. s.items ≡ sends_of old new c.args.prefix had has)
    (λ s is. is ∙ ap (filter_map over_each) c.as_slice.ensures
    ∙ sym (picked (send_over old new c.args.prefix had has) (λ x. x.up) new.sessions))
    c.sends_over.ensures
