-- The value is changed in the router's table.
use Rattle.std.proofs.Common.{Some, is_some, ap, sym, ◌∙◌}
use Rattle.std.proofs.lemmas.Option.{slice_get-get_or}
use Rattle.cell_engine.specs.RouterTables.{tables_of, adjusted_value}
use Rattle.cell_engine.proofs.Seen.{set_adjusted, value_found, value_absent}
use Rattle.cell_engine.proofs.router_tables.entries.adjust_in.Goals as goal

pub returns-in-Ok-clause-there : goal.returns-in-Ok-clause-there
returns-in-Ok-clause-there g c =
    let is = rw c.deref.ensures.value at c.in-Ok.ensures.found in
    let got = slice_get-get_or c.args.entries.now.items c.in-Ok.at c.index_mut.result.now is.in_range
    ∙ ap Some (sym c.index_mut.ensures.value) in
    c.adjust.ensures.there ∙ ap is_some
    (sym (value_found g.T.PrefixTable.table c.args.router c.args.prefix c.args.entries.now.items
    c.index_mut.result.now.1 (is.value c.index_mut.result.now got)))

pub returns-in-Ok-clause-adjusted : goal.returns-in-Ok-clause-adjusted
returns-in-Ok-clause-adjusted g c =
    let is = rw c.deref.ensures.value at c.in-Ok.ensures.found in
    let got = slice_get-get_or c.args.entries.now.items c.in-Ok.at c.index_mut.result.now is.in_range
    ∙ ap Some (sym c.index_mut.ensures.value) in
    set_adjusted g.T.PrefixTable.table c.args.router c.args.entries.now.items c.in-Ok.at
    (g.A.Adjust.after c.args.change.now) c.args.prefix c.index_mut.result.now c.adjust.new.self is got
    c.adjust.ensures.adjusted

pub returns-in-Err-clause-there : goal.returns-in-Err-clause-there
returns-in-Err-clause-there g c =
    let is = rw c.deref.ensures.value at c.in-Err.ensures.absent in
    sym (ap is_some (value_absent g.T.PrefixTable.table c.args.router c.args.prefix c.args.entries.now.items is.absent))

pub returns-in-Err-clause-adjusted : goal.returns-in-Err-clause-adjusted
returns-in-Err-clause-adjusted g c =
    let is = rw c.deref.ensures.value at c.in-Err.ensures.absent in
    let ts = tables_of g.T.PrefixTable.table c.args.entries.now.items in
    sym (ap (adjusted_value (g.A.Adjust.after c.args.change.now) c.args.router c.args.prefix ts)
    (value_absent g.T.PrefixTable.table c.args.router c.args.prefix c.args.entries.now.items is.absent))
