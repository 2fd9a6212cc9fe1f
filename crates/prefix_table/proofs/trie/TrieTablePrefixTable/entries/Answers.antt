use Rattle.std.proofs.Common.{◌≡◌, sym, ap, subst, ◌∙◌}
use Rattle.std.specs.FinMap as map
use Rattle.std.specs.Prelude.{IfOk}
use Rattle.prefix_table.specs.Tables.{all_seen}
use Rattle.prefix_table.specs.Trie.{places_in}
use Rattle.prefix_table.specs.Values.{with_values}
use Rattle.prefix_table.proofs.Values.{entries_of_values}
use Rattle.prefix_table.proofs.trie.TrieTablePrefixTable.entries.Goals as goal

pub returns : goal.returns
returns g c =
    let all = ap (λ vs. with_values vs (map.entries (places_in c.deref.result.now))) c.deref-2.ensures.value
    ∙ ap (λ ns. with_values c.self.inside.values.items (map.entries (places_in ns))) c.deref.ensures.value
    ∙ sym (entries_of_values c.self.inside.values.items (places_in c.self.inside.nodes.items))
    ∙ ap map.entries c.self.view_is in
    subst (λ es. IfOk c.refer_to.result (λ entries. all_seen entries.items ≡ es)) all c.refer_to.ensures
