use Rattle.std.proofs.Common.{ap, sym, ◌∙◌}
use Rattle.std.specs.List.{find}
use Rattle.prefix_table.specs.Tables.{is_after, first_after}
use Rattle.prefix_table.proofs.Entries.{entries_of}
use Rattle.prefix_table.proofs.sorted.SortedTablePrefixTable.next_after.Goals as goal

pub returns : goal.returns
returns g c =
    c.next_in.ensures ∙ ap (find (λ e. is_after c.args.after e.0)) (c.deref.ensures.value
    ∙ sym (entries_of c.self.inside.entries.items c.self.invariant))
    ∙ ap (λ m. first_after m c.args.after) c.self.view_is
