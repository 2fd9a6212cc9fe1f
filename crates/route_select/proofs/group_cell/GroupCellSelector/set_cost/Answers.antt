use Rattle.std.proofs.Common.{sym, subst, ap, ◌∙◌}
use Rattle.route_select.specs.Selection.{Standings}
use Rattle.route_select.specs.Groups.{AreGrouped, known_of}
use Rattle.route_select.specs.AtCost.{at_cost}
use Rattle.route_select.proofs.EntryLemmas.{compared}
use Rattle.route_select.proofs.AtCost.{written_back, grouped_at, known_at}
use Rattle.route_select.proofs.group_cell.GroupCellSelector.set_cost.Goals as goal

pub invariant_of-self : goal.invariant_of-self
invariant_of-self c =
    let items = written_back c.self.inside.entries _ _ c.args.cost c.deref_mut.ensures.len c.deref_mut.ensures.value
    c.set_lone_cost.auto.entries c.set_lone_cost.ensures in
    subst (λ xs. AreGrouped c.self.inside.med_always xs c.self.inside.best) (sym items)
    (grouped_at _ _ _ _ c.self.invariant)

pub returns : goal.returns
returns c =
    let items = written_back c.self.inside.entries _ _ c.args.cost c.deref_mut.ensures.len c.deref_mut.ensures.value
    c.set_lone_cost.auto.entries c.set_lone_cost.ensures in
    ap (compared c.self.inside.med_always) (ap known_of items ∙ known_at _ _ c.self.invariant.distinct)
    ∙ ap (λ (m : Standings). at_cost c.args.cost m) c.self.view_is
