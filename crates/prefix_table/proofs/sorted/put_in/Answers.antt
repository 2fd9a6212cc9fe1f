-- The entry is written at its position.
use Rattle.std.proofs.Common.{Some, ap, sym, ◌∙◌, set}
use Rattle.std.proofs.lemmas.Option.{slice_get-get_or}
use Rattle.prefix_table.proofs.sorted.put_in.Goals as goal

pub returns-in-Ok-clause-before : goal.returns-in-Ok-clause-before
returns-in-Ok-clause-before g c =
    let is = rw c.deref.ensures.value at c.in-Ok.ensures.found in
    let got = slice_get-get_or c.args.entries.now.items c.in-Ok.at c.index_mut-entry.result.now is.in_range
    ∙ ap Some (sym c.index_mut-entry.ensures.value) in
    ap Some c.replace.ensures.value ∙ sym (is.value c.index_mut-entry.result.now got)

pub returns-in-Ok-clause-inserted : goal.returns-in-Ok-clause-inserted
returns-in-Ok-clause-inserted g c =
    let is = rw c.deref.ensures.value at c.in-Ok.ensures.found in
    let got = slice_get-get_or c.args.entries.now.items c.in-Ok.at c.index_mut-entry.result.now is.in_range
    ∙ ap Some (sym c.index_mut-entry.ensures.value) in
    ap (λ k. set c.args.entries.now.items c.in-Ok.at (k, c.replace.new.dest)) (is.key c.index_mut-entry.result.now got)
    ∙ ap (λ v. set c.args.entries.now.items c.in-Ok.at (c.args.prefix, v)) c.replace.ensures.after
    ∙ is.written c.args.value

pub returns-in-Ok-insert-clause-before : goal.returns-in-Ok-insert-clause-before
returns-in-Ok-insert-clause-before g c = let is = rw c.deref.ensures.value at c.in-Err.ensures.absent in sym is.absent

pub returns-in-Ok-insert-clause-inserted : goal.returns-in-Ok-insert-clause-inserted
returns-in-Ok-insert-clause-inserted g c = let is = rw c.deref.ensures.value at c.in-Err.ensures.absent in
    c.in-Ok-insert.ensures.items ∙ is.added c.args.value

pub returns-in-Err-insert-clause-absent : goal.returns-in-Err-insert-clause-absent
returns-in-Err-insert-clause-absent g c = let is = rw c.deref.ensures.value at c.in-Err.ensures.absent in is.absent
