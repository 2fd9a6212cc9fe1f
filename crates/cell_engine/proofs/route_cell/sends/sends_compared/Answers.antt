use Rattle.std.proofs.Common.{◌≡◌, true, option_copied, ap, sym, ◌∙◌}
use Rattle.net_conf.specs.Facts.{same_facts}
use Rattle.cell_engine.specs.SiteMoves.{SitePair}
use Rattle.cell_engine.proofs.Costless.{costs_are_silent}
use Rattle.cell_engine.proofs.route_cell.sends.sends_compared.Goals as goal

pub returns-then-is_same_choice_but_for_cost : goal.returns-then-is_same_choice_but_for_cost
returns-then-is_same_choice_but_for_cost c =
    let sites = c.args.change.now in
    let alike : same_facts sites.old sites.new ≡ true =
    ap (λ (s : SitePair). same_facts s.old s.new) (sym c.change.view_is) ∙ sym c.change.invariant.0
    ∙ c.if-change.true in
    c.new.ensures.items ∙ sym (costs_are_silent sites.old sites.new c.args.prefix (option_copied c.args.had)
    (option_copied c.args.has) alike (c.if-is_same_choice_but_for_cost.ensures) c.requires)
