use Rattle.std.proofs.Common.{◌+◌, nat_eq, refl}
use Rattle.std.proofs.lemmas.Bool.{ne_eqb}
use Rattle.script_files.proofs.Limits.{measured_byte, unfit_byte, unfit_many}
use Rattle.script_files.proofs.files.Measure.take.Goals as goal

pub returns-then-self-ge-MOST_LINES-clause-unfit : goal.returns-then-self-ge-MOST_LINES-clause-unfit
returns-then-self-ge-MOST_LINES-clause-unfit c = λ e read left so.
    unfit_many read left c.args.byte c.args.self.now so c.if-self-ge-MOST_LINES.true

pub returns-then-self-gt-MOST_BYTES-clause-unfit : goal.returns-then-self-gt-MOST_BYTES-clause-unfit
returns-then-self-gt-MOST_BYTES-clause-unfit c = λ e read left so.
    unfit_byte read left c.args.byte c.args.self.now so (ne_eqb c.args.byte 10 c.if-byte-eq10.false)
    c.if-self-gt-MOST_BYTES.true

pub returns-clause-taken : goal.returns-clause-taken
returns-clause-taken c = λ e read so.
    measured_byte read c.args.byte c.args.self.now (record {
      lines = c.args.self.now.lines;
      length = c.args.self.now.length + 1;
      is_returned = nat_eq c.args.byte 13;
    }) so
    (ne_eqb c.args.byte 10 c.if-byte-eq10.false) c.if-self-ge-MOST_LINES.false c.if-self-gt-MOST_BYTES.false refl refl
    refl
