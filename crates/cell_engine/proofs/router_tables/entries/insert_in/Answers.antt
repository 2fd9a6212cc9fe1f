-- A value is put into the router's table, or a new table goes to its place.
use Rattle.std.proofs.Common.{Some, ap, sym, ◌∙◌, insert}
use Rattle.std.proofs.lemmas.Option.{slice_get-get_or}
use Rattle.cell_engine.specs.RouterTables.{tables_of}
use Rattle.cell_engine.proofs.Seen.{set_value, set_same, insert_value, value_found, value_absent}
use Rattle.cell_engine.proofs.router_tables.entries.insert_in.Goals as goal

pub returns-in-Ok-insert-clause-ok : goal.returns-in-Ok-insert-clause-ok
returns-in-Ok-insert-clause-ok g c =
    let is = rw c.deref.ensures.value at c.in-Ok.ensures.found in
    let got = slice_get-get_or c.args.entries.now.items c.in-Ok.at c.index_mut.result.now is.in_range
    ∙ ap Some (sym c.index_mut.ensures.value) in
    set_value g.T.PrefixTable.table c.args.router c.args.entries.now.items c.in-Ok.at c.args.prefix c.args.value
    c.index_mut.result.now c.insert.new.self is got c.in-Ok-insert.ensures.inserted

pub returns-in-Ok-clause-absent : goal.returns-in-Ok-clause-absent
returns-in-Ok-clause-absent g c =
    let is = rw c.deref.ensures.value at c.in-Ok.ensures.found in
    let got = slice_get-get_or c.args.entries.now.items c.in-Ok.at c.index_mut.result.now is.in_range
    ∙ ap Some (sym c.index_mut.ensures.value) in
    value_found g.T.PrefixTable.table c.args.router c.args.prefix c.args.entries.now.items c.index_mut.result.now.1
    (is.value c.index_mut.result.now got) ∙ c.in-Err-insert.ensures.absent

pub returns-in-Ok-clause-err : goal.returns-in-Ok-clause-err
returns-in-Ok-clause-err g c =
    let is = rw c.deref.ensures.value at c.in-Ok.ensures.found in
    let got = slice_get-get_or c.args.entries.now.items c.in-Ok.at c.index_mut.result.now is.in_range
    ∙ ap Some (sym c.index_mut.ensures.value) in
    set_same g.T.PrefixTable.table c.args.router c.args.entries.now.items c.in-Ok.at c.index_mut.result.now
    c.insert.new.self got c.in-Err-insert.ensures.same

pub returns-then-is_err-clause-absent : goal.returns-then-is_err-clause-absent
returns-then-is_err-clause-absent g c =
    let is = rw c.deref.ensures.value at c.in-Err.ensures.absent in
    value_absent g.T.PrefixTable.table c.args.router c.args.prefix c.args.entries.now.items is.absent

pub returns-in-Ok-insert-3-clause-ok : goal.returns-in-Ok-insert-3-clause-ok
returns-in-Ok-insert-3-clause-ok g c =
    let is = rw c.deref.ensures.value at c.in-Err.ensures.absent in
    ap (tables_of g.T.PrefixTable.table) c.in-Ok-insert-3.ensures.items
    ∙ ap (λ es. tables_of g.T.PrefixTable.table (insert es c.in-Err.at (c.args.router, c.insert-in-Err.new.self)))
    c.reserve.ensures.items
    ∙ insert_value g.T.PrefixTable.table c.args.router c.args.entries.now.items c.in-Err.at c.args.prefix c.args.value
    c.new-table.result c.insert-in-Err.new.self is c.new-table.ensures c.in-Ok-insert-2.ensures.inserted

pub returns-clause-absent : goal.returns-clause-absent
returns-clause-absent g c =
    let is = rw c.deref.ensures.value at c.in-Err.ensures.absent in
    value_absent g.T.PrefixTable.table c.args.router c.args.prefix c.args.entries.now.items is.absent
