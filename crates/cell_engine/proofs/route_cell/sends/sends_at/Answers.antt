use Rattle.std.proofs.Common.{◌≡◌, option_copied, ap, sym, ◌∙◌}
use Rattle.cell_engine.specs.Cells.{sends_of}
use Rattle.cell_engine.specs.Within.{basis_of, send_within}
use Rattle.std.specs.List.{filter_map}
use Rattle.std.proofs.lemmas.Result.{IfOk-weaker}
use Rattle.cell_engine.proofs.Unchanged.{nothing_sent}
use Rattle.cell_engine.proofs.WithinSite.{sent_within}
use Rattle.cell_engine.proofs.route_cell.sends.sends_at.Goals as goal

pub returns-then-is_same_choice : goal.returns-then-is_same_choice
returns-then-is_same_choice c =
    let site = c.args.site.now in
    let had = option_copied c.args.had in
    let same : had ≡ option_copied c.args.has = c.is_same_choice.ensures.0 c.if-is_same_choice.true in
    c.new.ensures.items ∙ sym (nothing_sent site c.args.prefix had c.requires)
    ∙ ap (sends_of site site c.args.prefix had) same

pub returns : goal.returns
returns c =
    let site = c.args.site.now in
    let p = c.args.prefix in
    let had = option_copied c.args.had in
    let has = option_copied c.args.has in
    IfOk-weaker c.sends_within.result _ (λ s. s.items ≡ sends_of site site p had has)
    (λ s is. is ∙ (λ i. filter_map (send_within p (c.adverts_of-before.ensures i) (c.adverts_of-after.ensures i))
    (c.as_slice.ensures i)) ∙ sent_within site p had has c.requires)
    c.sends_within.ensures
