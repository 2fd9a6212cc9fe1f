use Rattle.std.proofs.Common.{ap, sym, ◌∙◌, option_map}
use Rattle.std.specs.List.{find}
use Rattle.cell_engine.specs.RouterTables.{is_past, next_of}
use Rattle.cell_engine.proofs.Seen.{next_seen}
use Rattle.cell_engine.proofs.router_tables.tables.RouterTables.next_table.Goals as goal

pub returns : goal.returns
returns g c =
    c.next_in.ensures
    ∙ ap (λ es. option_map (λ e. e.0) (find (λ e. is_past c.args.past e.0) es)) c.deref.ensures.value
    ∙ sym (next_seen g.T.PrefixTable.table c.args.past c.self.inside.entries.items)
    ∙ ap (λ ts. next_of ts c.args.past) c.self.view_is
