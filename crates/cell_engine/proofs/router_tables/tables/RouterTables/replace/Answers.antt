use Rattle.std.proofs.Common.{ap, sym, ◌∙◌}
use Rattle.std.specs.FinMap.Entries.{is_sorted}
use Rattle.net_prefix.specs.Address.{addr_cmp}
use Rattle.cell_engine.proofs.Seen.{sorted_kept, sorted_seen}
use Rattle.cell_engine.proofs.router_tables.tables.RouterTables.replace.Goals as goal

pub invariant_of-self : goal.invariant_of-self
invariant_of-self g c = sorted_kept g.T.PrefixTable.table c.replace_in.result _ _ c.self.inside.entries.items
    c.replace_in.new.entries.items c.self.invariant c.replace_in.ensures.replaced c.replace_in.ensures.same

pub returns-clause-by_address : goal.returns-clause-by_address
returns-clause-by_address g c = ap (is_sorted addr_cmp) (sym c.self.view_is)
    ∙ sorted_seen g.T.PrefixTable.table c.self.inside.entries.items ∙ c.self.invariant
