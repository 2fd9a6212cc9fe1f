use Rattle.cell_engine.proofs.Seen.{adjusted_kept}
use Rattle.cell_engine.proofs.router_tables.tables.RouterTables.adjust.Goals as goal

pub invariant_of-self : goal.invariant_of-self
invariant_of-self g c = adjusted_kept g.T.PrefixTable.table (g.A.Adjust.after c.args.change.now) c.args.router
    c.args.prefix c.self.inside.entries.items c.adjust_in.new.entries.items c.self.invariant
    c.adjust_in.ensures.adjusted
