use Rattle.prefix_table.proofs.Keeping.{none_seen}
use Rattle.prefix_table.proofs.sorted.SortedTablePrefixTable.new.Goals as goal

pub returns : goal.returns
returns g c = rw c.new.ensures.items none_seen
