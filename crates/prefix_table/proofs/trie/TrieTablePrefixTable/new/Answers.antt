use Rattle.std.proofs.Common.{[], sym, ap, subst, ◌∙◌}
use Rattle.prefix_table.specs.Values.{IsIndex, table_in}
use Rattle.prefix_table.proofs.Contents.{empty_trie}
use Rattle.prefix_table.proofs.Values.{no_values, nothing_placed}
use Rattle.prefix_table.proofs.trie.TrieTablePrefixTable.new.Goals as goal

pub invariant_of-result : goal.invariant_of-result
invariant_of-result g c = (
  subst (λ ns. IsIndex ns c.new-2.result.items) (sym c.new.ensures.items)
      (subst (IsIndex []) (sym c.new-2.ensures.items) (record { trie = empty_trie; placed = nothing_placed })),
  tt,
)

pub returns : goal.returns
returns g c = ap (λ ns. table_in ns c.new-2.result.items) c.new.ensures.items ∙ ap (table_in []) c.new-2.ensures.items
    ∙ no_values
