-- The key is there where it is in its chunk.
use Rattle.std.proofs.Common.{sym, ◌∙◌}
use Rattle.shared_map.proofs.Splits.{found_in_one}
use Rattle.shared_map.proofs.chunks.holds.Goals as goal

pub returns-in-Ok : goal.returns-in-Ok
returns-in-Ok g c =
    c.in-Ok.ensures.found.there
    ∙ sym (found_in_one g.K.Ord.cmp c.args.chunks.now c.args.key.now c.split-parts.result.before.now
    c.split-parts.result.chunk.now c.split-parts.result.after.now c.split-parts.ensures)

pub returns-in-Err : goal.returns-in-Err
returns-in-Err g c =
    c.in-Err.ensures.absent.absent
    ∙ sym (found_in_one g.K.Ord.cmp c.args.chunks.now c.args.key.now c.split-parts.result.before.now
    c.split-parts.result.chunk.now c.split-parts.result.after.now c.split-parts.ensures)
