use Rattle.std.proofs.Common.{ap, sym, ◌∙◌, option_map}
use Rattle.std.specs.FinMap.Entries.{find}
use Rattle.net_prefix.specs.Address.{addr_cmp}
use Rattle.cell_engine.proofs.Seen.{find_seen}
use Rattle.cell_engine.proofs.router_tables.tables.RouterTables.table.Goals as goal

pub returns : goal.returns
returns g c =
    let f = g.T.PrefixTable.table in
    ap (option_map f) (c.table_in.ensures ∙ ap (find addr_cmp c.args.router) c.deref.ensures.value)
    ∙ sym (find_seen f c.args.router c.self.inside.entries.items)
    ∙ ap (find addr_cmp c.args.router) c.self.view_is
