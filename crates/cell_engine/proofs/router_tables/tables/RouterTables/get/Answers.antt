-- The value is read in the table that is found.
use Rattle.std.proofs.Common.{ap, sym, ◌∙◌, option_copied}
use Rattle.std.specs.FinMap.Entries.{find, is_sorted}
use Rattle.net_prefix.specs.Address.{addr_cmp}
use Rattle.cell_engine.specs.RouterTables.{value_at}
use Rattle.cell_engine.proofs.Seen.{sorted_seen, value_found, value_absent}
use Rattle.cell_engine.proofs.router_tables.tables.RouterTables.get.Goals as goal

pub returns-in_err-table_in-clause-value : goal.returns-in_err-table_in-clause-value
returns-in_err-table_in-clause-value g c =
    let none = c.in_err-table_in.ensures ∙ ap (find addr_cmp c.args.router) c.deref.ensures.value in
    ap option_copied c.from_residual.ensures
    ∙ sym (value_absent g.T.PrefixTable.table c.args.router c.args.prefix c.self.inside.entries.items (sym none))
    ∙ ap (value_at c.args.router c.args.prefix) c.self.view_is

pub returns-in_err-table_in-clause-by_address : goal.returns-in_err-table_in-clause-by_address
returns-in_err-table_in-clause-by_address g c = ap (is_sorted addr_cmp) (sym c.self.view_is)
    ∙ sorted_seen g.T.PrefixTable.table c.self.inside.entries.items ∙ c.self.invariant

pub returns-clause-value : goal.returns-clause-value
returns-clause-value g c =
    let there = c.in_ok-table_in.ensures ∙ ap (find addr_cmp c.args.router) c.deref.ensures.value in
    c.get.ensures
    ∙ sym (value_found g.T.PrefixTable.table c.args.router c.args.prefix c.self.inside.entries.items
    c.in_ok-table_in.field-0.now (sym there))
    ∙ ap (value_at c.args.router c.args.prefix) c.self.view_is

pub returns-clause-by_address : goal.returns-clause-by_address
returns-clause-by_address g c = ap (is_sorted addr_cmp) (sym c.self.view_is)
    ∙ sorted_seen g.T.PrefixTable.table c.self.inside.entries.items ∙ c.self.invariant
