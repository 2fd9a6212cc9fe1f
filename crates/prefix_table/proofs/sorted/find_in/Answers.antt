-- The prefix's entry is at its position.
use Rattle.std.proofs.Common.{sym, arith}
use Rattle.std.proofs.lemmas.Option.{slice_get-get_or}
use Rattle.prefix_table.proofs.sorted.find_in.Goals as goal

pub offset_bounds-entries-at : goal.offset_bounds-entries-at
offset_bounds-entries-at g c = omega (arith, c.in-Ok.ensures.found.in_range)

pub bounds-entries-at : goal.bounds-entries-at
bounds-entries-at g c = c.in-Ok.ensures.found.in_range

pub returns-in-Ok : goal.returns-in-Ok
returns-in-Ok g c = sym (c.in-Ok.ensures.found.value
    _ (slice_get-get_or c.args.entries.now c.in-Ok.at c.index-entries-at.result c.in-Ok.ensures.found.in_range))

pub returns-in-Err : goal.returns-in-Err
returns-in-Err g c = sym c.in-Err.ensures.absent.absent
