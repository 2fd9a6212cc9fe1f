use Rattle.std.proofs.Common.{sym, subst, ap, ◌∙◌}
use Rattle.route_select.specs.Selection.{Standings}
use Rattle.route_select.specs.Entries.{AreEntries}
use Rattle.route_select.specs.AtCost.{at_cost}
use Rattle.route_select.proofs.EntryLemmas.{map_of, compared}
use Rattle.route_select.proofs.AtCost.{written_back, are_at, map_at}
use Rattle.route_select.proofs.filter_cell.FilterCellSelector.set_cost.Goals as goal

pub invariant_of-self : goal.invariant_of-self
invariant_of-self c =
    let items = written_back c.self.inside.entries _ _ c.args.cost c.deref_mut.ensures.len c.deref_mut.ensures.value
    c.set_lone_cost.auto.entries c.set_lone_cost.ensures in
    subst AreEntries (sym items) (are_at _ _ c.self.invariant)

pub returns : goal.returns
returns c =
    let items = written_back c.self.inside.entries _ _ c.args.cost c.deref_mut.ensures.len c.deref_mut.ensures.value
    c.set_lone_cost.auto.entries c.set_lone_cost.ensures in
    ap (compared c.self.inside.med_always) (ap map_of items ∙ map_at _ _ c.self.invariant)
    ∙ ap (λ (m : Standings). at_cost c.args.cost m) c.self.view_is
