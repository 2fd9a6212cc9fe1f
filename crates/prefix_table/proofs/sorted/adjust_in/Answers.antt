-- The entry is changed at its position.
use Rattle.std.proofs.Common.{Some, is_some, ap, sym, ◌∙◌, set}
use Rattle.std.proofs.lemmas.Option.{slice_get-get_or}
use Rattle.prefix_table.specs.Places.{changed}
use Rattle.prefix_table.proofs.sorted.adjust_in.Goals as goal

pub returns-in-Ok-clause-there : goal.returns-in-Ok-clause-there
returns-in-Ok-clause-there g c =
    let is = rw c.deref.ensures.value at c.in-Ok.ensures.found in
    let got = slice_get-get_or c.args.entries.now.items c.in-Ok.at c.index_mut-entry.result.now is.in_range
    ∙ ap Some (sym c.index_mut-entry.ensures.value) in
    sym (ap is_some (is.value c.index_mut-entry.result.now got))

pub returns-in-Ok-clause-changed : goal.returns-in-Ok-clause-changed
returns-in-Ok-clause-changed g c =
    let is = rw c.deref.ensures.value at c.in-Ok.ensures.found in
    let got = slice_get-get_or c.args.entries.now.items c.in-Ok.at c.index_mut-entry.result.now is.in_range
    ∙ ap Some (sym c.index_mut-entry.ensures.value) in
    let after = g.A.Adjust.after c.args.change.now in
    ap (λ k. set c.args.entries.now.items c.in-Ok.at (k, c.adjust.new.value)) (is.key c.index_mut-entry.result.now got)
    ∙ ap (λ v. set c.args.entries.now.items c.in-Ok.at (c.args.prefix, v)) c.adjust.ensures
    ∙ is.written (after c.index_mut-entry.result.now.1)
    ∙ ap (changed after c.args.prefix c.args.entries.now.items) (sym (is.value c.index_mut-entry.result.now got))

pub returns-in-Err-clause-there : goal.returns-in-Err-clause-there
returns-in-Err-clause-there g c = let is = rw c.deref.ensures.value at c.in-Err.ensures.absent in
    sym (ap is_some is.absent)

pub returns-in-Err-clause-changed : goal.returns-in-Err-clause-changed
returns-in-Err-clause-changed g c =
    let is = rw c.deref.ensures.value at c.in-Err.ensures.absent in
    sym (ap (changed (g.A.Adjust.after c.args.change.now) c.args.prefix c.args.entries.now.items) is.absent)
