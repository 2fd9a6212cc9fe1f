use Rattle.std.proofs.Common.{◌≡◌, ap, sym, ◌∙◌}
use Rattle.std.proofs.lemmas.Result.{IfOk-weaker}
use Rattle.std.specs.FinMap as map
use Rattle.prefix_table.specs.Tables.{all_seen}
use Rattle.prefix_table.proofs.Entries.{entries_of}
use Rattle.prefix_table.proofs.sorted.SortedTablePrefixTable.entries.Goals as goal

pub returns : goal.returns
returns g c =
    IfOk-weaker c.refer_to.result (λ found. all_seen found.items ≡ c.deref.result.now) (λ found. all_seen found.items
    ≡ map.entries c.args.self.now)
    (λ found is. is ∙ c.deref.ensures.value ∙ sym (entries_of c.self.inside.entries.items c.self.invariant)
    ∙ ap map.entries c.self.view_is) c.refer_to.ensures
