use Rattle.std.proofs.Common.{ap, sym, ◌∙◌, is_some}
use Rattle.std.specs.FinMap as map
use Rattle.std.specs.FinMap.Entries.{find, is_sorted}
use Rattle.net_prefix.specs.Prefix.{prefix_cmp}
use Rattle.prefix_table.specs.Tables.{adjusted}
use Rattle.prefix_table.proofs.Entries.{get_of}
use Rattle.prefix_table.proofs.Keeping.{changed_kept, seen_changed}
use Rattle.prefix_table.proofs.sorted.SortedTablePrefixTable.adjust.Goals as goal

pub invariant_of-self : goal.invariant_of-self
invariant_of-self g c =
    let entries = c.self.inside.entries.items in
    ap (is_sorted prefix_cmp) c.adjust_in.ensures.changed
    ∙ changed_kept (g.A.Adjust.after c.args.change.now) c.args.prefix entries c.self.invariant
    (find prefix_cmp c.args.prefix entries)

pub returns-clause-there : goal.returns-clause-there
returns-clause-there g c =
    c.adjust_in.ensures.there
    ∙ ap is_some (sym (get_of c.self.inside.entries.items c.args.prefix c.self.invariant))
    ∙ ap (λ m. is_some (map.get m c.args.prefix)) c.self.view_is

pub returns-clause-adjusted : goal.returns-clause-adjusted
returns-clause-adjusted g c =
    let after = g.A.Adjust.after c.args.change.now in
    ap map.from_sorted c.adjust_in.ensures.changed
    ∙ seen_changed after c.args.prefix c.self.inside.entries.items c.self.invariant
    ∙ ap (adjusted after c.args.prefix) c.self.view_is
