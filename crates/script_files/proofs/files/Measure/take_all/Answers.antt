use Rattle.std.proofs.Common.{◌+◌, ◌++◌, take, drop, subst}
use Rattle.script_files.specs.Sources.{IsFit}
use Rattle.script_files.proofs.Limits.{cut_at_byte}
use Rattle.script_files.proofs.files.Measure.take_all.Goals as goal

pub returns-then-not-take-clause-unfit : goal.returns-then-not-take-clause-unfit
returns-then-not-take-clause-unfit c = λ e read left so fit.
    let bytes = c.args.bytes.now in
    let i = c.loop-byte.byte-index in
    c.take.ensures.unfit c.if-not-take.true (read ++ take i bytes) (drop (i + 1) bytes ++ left)
    (c.loop-byte.invariant read so) (subst IsFit (cut_at_byte read bytes left i c.loop-byte-test.true) fit)
