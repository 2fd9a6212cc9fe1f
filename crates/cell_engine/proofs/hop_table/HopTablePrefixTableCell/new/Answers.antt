use Rattle.cell_engine.proofs.Knowing.{none_known}
use Rattle.cell_engine.proofs.hop_table.HopTablePrefixTableCell.new.Goals as goal

pub invariant_of-result : goal.invariant_of-result
invariant_of-result g c = none_known _ c.new.ensures
