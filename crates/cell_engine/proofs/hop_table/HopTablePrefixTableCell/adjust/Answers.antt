use Rattle.cell_engine.proofs.Knowing.{known_adjusted}
use Rattle.cell_engine.proofs.hop_table.HopTablePrefixTableCell.adjust.Goals as goal

pub invariant_of-self-2 : goal.invariant_of-self-2
invariant_of-self-2 g c =
    known_adjusted c.self.inside.hops c.with_cell-self-inside.result _ c.self.invariant
    c.with_cell-self-inside.ensures.keeps
    (g.A.Adjust.after c.args.change.now) c.args.prefix _ c.with_cell-self-inside.ensures.covers
    c.adjust.ensures.adjusted
