use Rattle.std.proofs.Common.{rules, ◌≡◌, ◌++◌, ◌∙◌, Some, None, unwrap_or, sym, ap}
use Rattle.std.specs.List.{filter_map}
use Rattle.std.specs.Option.{option_to_list}
use Rattle.std.specs.FinMap as finite
use Rattle.prefix_table.specs.Tables.{first_after}
use Rattle.cell_engine.specs.RouterTables.{table_at}
use Rattle.cell_engine.specs.Reporting.{cells_of, cells_after}
use Rattle.cell_engine.proofs.Walks.{cells_without_table, cells_begin, cells_step, cells_end}
use Rattle.sim_core.proofs.Lists.{fewer_left, said_none, said_more, said_all}
use Rattle.sim_core.proofs.sim_report.cells.lines.Goals as goal

pub returns-in_default : goal.returns-in_default
returns-in_default g c =
    c.new-items.ensures.items
    ∙ sym (ap (filter_map (g.L.Line.said c.args.line.now)) (cells_without_table c.args.router c.args.state.now.tables
    (sym c.in_default.ensures)))

pub walk-init : goal.walk-init
walk-init g c =
    let r = c.args.router in
    let ts = c.args.state.now.tables in
    said_none (g.L.Line.said c.args.line.now) c.new-items.result.items (cells_after r ts None)
    (cells_of r ts) c.new-items.ensures.items (cells_begin r ts)

pub returns-in-None : goal.returns-in-None
returns-in-None g c =
    let r = c.args.router in
    let ts = c.args.state.now.tables in
    let said = g.L.Line.said c.args.line.now in
    let table : g.T.PrefixTable.table c.in-Some.table.now ≡ table_at r ts =
    ap (λ x. unwrap_or x finite.empty) c.in-Some.ensures in
    said_all said c.walk.items.items (cells_after r ts c.walk.after) (filter_map said (cells_of r ts))
    (cells_end r ts c.walk.after (sym (c.in-None.ensures ∙ ap (λ t. first_after t c.walk.after) table)))
    c.walk.invariant

pub walk-smaller : goal.walk-smaller
walk-smaller g c =
    let r = c.args.router in
    let ts = c.args.state.now.tables in
    let table : g.T.PrefixTable.table c.in-Some.table.now ≡ table_at r ts =
    ap (λ x. unwrap_or x finite.empty) c.in-Some.ensures in
    let prefix = c.in-Some-next_after.entry.0 in
    let cell = c.in-Some-next_after.entry.1.now in
    fewer_left (cells_after r ts c.walk.after) (cells_after r ts (Some prefix)) (prefix, cell)
    (cells_step r ts c.walk.after (
      prefix,
      cell,
    ) (sym (c.in-Some-next_after.ensures ∙ ap (λ t. first_after t c.walk.after) table)))

pub walk-preserved : goal.walk-preserved
walk-preserved g c =
    let r = c.args.router in
    let ts = c.args.state.now.tables in
    let said = g.L.Line.said c.args.line.now in
    let table : g.T.PrefixTable.table c.in-Some.table.now ≡ table_at r ts =
    ap (λ x. unwrap_or x finite.empty) c.in-Some.ensures in
    let prefix = c.in-Some-next_after.entry.0 in
    let cell = c.in-Some-next_after.entry.1.now in
    let added : c.push_some.new.items.items ≡ c.walk.items.items ++ option_to_list (said (prefix, cell)) =
    search rules in
    said_more said c.walk.items.items c.push_some.new.items.items (cells_after r ts c.walk.after)
    (cells_after r ts (Some prefix)) (prefix, cell) (filter_map said (cells_of r ts))
    added
    (cells_step r ts c.walk.after (
      prefix,
      cell,
    ) (sym (c.in-Some-next_after.ensures ∙ ap (λ t. first_after t c.walk.after) table)))
    c.walk.invariant
