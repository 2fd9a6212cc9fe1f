use Rattle.cell_engine.proofs.Seen.{sorted_kept}
use Rattle.cell_engine.proofs.router_tables.tables.RouterTables.insert.Goals as goal

pub invariant_of-self : goal.invariant_of-self
invariant_of-self g c = sorted_kept g.T.PrefixTable.table c.insert_in.result _ _ c.self.inside.entries.items
    c.insert_in.new.entries.items c.self.invariant c.insert_in.ensures.ok c.insert_in.ensures.err
