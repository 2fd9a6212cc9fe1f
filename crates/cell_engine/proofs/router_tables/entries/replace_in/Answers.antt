-- The value is written into the router's table.
use Rattle.std.proofs.Common.{Some, ap, sym, ◌∙◌}
use Rattle.std.proofs.lemmas.Option.{slice_get-get_or}
use Rattle.cell_engine.proofs.Seen.{set_value, set_same, value_found, value_absent, when_ok, when_err}
use Rattle.cell_engine.proofs.router_tables.entries.replace_in.Goals as goal

pub returns-in-Ok-clause-before : goal.returns-in-Ok-clause-before
returns-in-Ok-clause-before g c =
    let is = rw c.deref.ensures.value at c.in-Ok.ensures.found in
    let got = slice_get-get_or c.args.entries.now.items c.in-Ok.at c.index_mut.result.now is.in_range
    ∙ ap Some (sym c.index_mut.ensures.value) in
    when_ok c.replace.result _ _ (λ before there.
    value_found g.T.PrefixTable.table c.args.router c.args.prefix c.args.entries.now.items c.index_mut.result.now.1
    (is.value c.index_mut.result.now got) ∙ there) c.replace.ensures.before

pub returns-in-Ok-clause-replaced : goal.returns-in-Ok-clause-replaced
returns-in-Ok-clause-replaced g c =
    let is = rw c.deref.ensures.value at c.in-Ok.ensures.found in
    let got = slice_get-get_or c.args.entries.now.items c.in-Ok.at c.index_mut.result.now is.in_range
    ∙ ap Some (sym c.index_mut.ensures.value) in
    when_ok c.replace.result _ _ (λ before made. set_value g.T.PrefixTable.table c.args.router c.args.entries.now.items
    c.in-Ok.at c.args.prefix c.args.value c.index_mut.result.now c.replace.new.self is got made)
    c.replace.ensures.replaced

pub returns-in-Ok-clause-absent : goal.returns-in-Ok-clause-absent
returns-in-Ok-clause-absent g c =
    let is = rw c.deref.ensures.value at c.in-Ok.ensures.found in
    let got = slice_get-get_or c.args.entries.now.items c.in-Ok.at c.index_mut.result.now is.in_range
    ∙ ap Some (sym c.index_mut.ensures.value) in
    when_err c.replace.result _ _ (λ back none.
    value_found g.T.PrefixTable.table c.args.router c.args.prefix c.args.entries.now.items c.index_mut.result.now.1
    (is.value c.index_mut.result.now got) ∙ none) c.replace.ensures.absent

pub returns-in-Ok-clause-same : goal.returns-in-Ok-clause-same
returns-in-Ok-clause-same g c =
    let is = rw c.deref.ensures.value at c.in-Ok.ensures.found in
    let got = slice_get-get_or c.args.entries.now.items c.in-Ok.at c.index_mut.result.now is.in_range
    ∙ ap Some (sym c.index_mut.ensures.value) in
    when_err c.replace.result _ _ (λ back same.
    set_same g.T.PrefixTable.table c.args.router c.args.entries.now.items c.in-Ok.at c.index_mut.result.now
    c.replace.new.self got same) c.replace.ensures.same

pub returns-in-Err-clause-absent : goal.returns-in-Err-clause-absent
returns-in-Err-clause-absent g c =
    let is = rw c.deref.ensures.value at c.in-Err.ensures.absent in
    value_absent g.T.PrefixTable.table c.args.router c.args.prefix c.args.entries.now.items is.absent
