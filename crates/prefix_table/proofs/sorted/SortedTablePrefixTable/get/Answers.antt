use Rattle.std.proofs.Common.{ap, sym, ◌∙◌}
use Rattle.std.specs.FinMap as map
use Rattle.std.specs.FinMap.Entries.{find}
use Rattle.net_prefix.specs.Prefix.{prefix_cmp}
use Rattle.prefix_table.proofs.Entries.{get_of}
use Rattle.prefix_table.proofs.sorted.SortedTablePrefixTable.get.Goals as goal

pub returns : goal.returns
returns g c =
    c.find_in.ensures ∙ ap (find prefix_cmp c.args.prefix) c.deref.ensures.value
    ∙ sym (get_of c.self.inside.entries.items c.args.prefix c.self.invariant)
    ∙ ap (λ m. map.get m c.args.prefix) c.self.view_is
