use Rattle.std.proofs.Common.{◌≡◌, ◌+◌, ◌≤◌, false, refl}
use Rattle.watched.specs.Limits.{most_bytes}
use Rattle.script_files.proofs.Limits.{measured_line, unfit_line}
use Rattle.script_files.proofs.files.Measure.end_line.Goals as goal
use Rattle.script_files.proofs.files.Measure.end_line.Goals.{else-self-gt-MOST_BYTES-via-then-self-gt-MOST_BYTES+else-not-self, else-self-gt-MOST_BYTES-via-else-self-gt-MOST_BYTES}

pub returns-then-not-self-clause-unfit : goal.returns-then-not-self-clause-unfit
returns-then-not-self-clause-unfit c = λ e read left so.
    unfit_line read left c.args.self.now so c.if-self-gt-MOST_BYTES.true c.if-not-self.true

pub returns-clause-taken : goal.returns-clause-taken
returns-clause-taken c = λ e read so.
    let fits : c.args.self.now.is_returned ≡ false → c.args.self.now.length ≤ most_bytes =
    elim c.else-self-gt-MOST_BYTES.branch [
      | else-self-gt-MOST_BYTES-via-then-self-gt-MOST_BYTES+else-not-self w ↦ λ none. let some = w.if-not-self.false in
          absurd (cc)
      | else-self-gt-MOST_BYTES-via-else-self-gt-MOST_BYTES w ↦ λ none. w.if-self-gt-MOST_BYTES.false
    ] in
    measured_line read c.args.self.now (record { lines = c.args.self.now.lines + 1; length = 0; is_returned = false })
    so c.requires fits refl refl refl
