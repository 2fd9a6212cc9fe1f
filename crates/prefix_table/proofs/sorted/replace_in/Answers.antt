-- The entry is written at its place.
use Rattle.std.proofs.Common.{Some, ap, sym, ◌∙◌, set}
use Rattle.std.proofs.lemmas.Option.{slice_get-get_or}
use Rattle.prefix_table.proofs.sorted.replace_in.Goals as goal

pub returns-in-Ok-clause-before : goal.returns-in-Ok-clause-before
returns-in-Ok-clause-before g c =
    let is = rw c.deref.ensures.value at c.in-Ok.ensures.found in
    let got = slice_get-get_or c.args.entries.now.items c.in-Ok.at c.index_mut-entry.result.now is.in_range
    ∙ ap Some (sym c.index_mut-entry.ensures.value) in
    is.value c.index_mut-entry.result.now got ∙ ap Some (sym c.replace.ensures.value)

pub returns-in-Ok-clause-replaced : goal.returns-in-Ok-clause-replaced
returns-in-Ok-clause-replaced g c =
    let is = rw c.deref.ensures.value at c.in-Ok.ensures.found in
    let got = slice_get-get_or c.args.entries.now.items c.in-Ok.at c.index_mut-entry.result.now is.in_range
    ∙ ap Some (sym c.index_mut-entry.ensures.value) in
    ap (λ k. set c.args.entries.now.items c.in-Ok.at (k, c.replace.new.dest)) (is.key c.index_mut-entry.result.now got)
    ∙ ap (λ v. set c.args.entries.now.items c.in-Ok.at (c.args.prefix, v)) c.replace.ensures.after
    ∙ is.written c.args.value

pub returns-in-Err-clause-absent : goal.returns-in-Err-clause-absent
returns-in-Err-clause-absent g c = let is = rw c.deref.ensures.value at c.in-Err.ensures.absent in is.absent
