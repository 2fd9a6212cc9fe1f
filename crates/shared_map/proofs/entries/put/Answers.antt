-- The order stays.
use Rattle.std.proofs.Common.{Some, ap, sym, ◌∙◌}
use Rattle.std.proofs.lemmas.Option.{slice_get-get_or}
use Rattle.shared_map.proofs.InOrder.{entries_in_order}
use Rattle.shared_map.proofs.entries.put.Goals as goal

pub returns-in-Ok-clause-ordered : goal.returns-in-Ok-clause-ordered
returns-in-Ok-clause-ordered g c =
    let is = rw c.deref.ensures.value at c.in-Ok.ensures.found in
    let got = slice_get-get_or c.args.entries.now.items c.in-Ok.at c.index_mut-entry.result.now is.in_range
    ∙ ap Some (sym c.index_mut-entry.ensures.value) in
    entries_in_order g.K.Ord.cmp g.met.K.Ord.total c.args.key c.args.value c.args.entries.now.items
    _ (is.written c.args.value c.index_mut-entry.result.now got) c.requires

pub returns-in_ok-insert-in-Err-clause-ordered : goal.returns-in_ok-insert-in-Err-clause-ordered
returns-in_ok-insert-in-Err-clause-ordered g c =
    let is = rw c.deref.ensures.value at c.in-Err.ensures.absent in
    entries_in_order g.K.Ord.cmp g.met.K.Ord.total c.args.key c.args.value c.args.entries.now.items
    _ (c.in_ok-insert-in-Err.ensures.items ∙ is.added c.args.value) c.requires
