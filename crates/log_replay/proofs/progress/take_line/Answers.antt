use Rattle.std.proofs.Common.{take, ap}
use Rattle.log_replay.proofs.Steps.{line_taken, line_differs, line_bad, line_wanting}
use Rattle.log_replay.proofs.progress.take_line.Goals as goal

pub returns-in-Ok-Taken-clause-taken : goal.returns-in-Ok-Taken-clause-taken
returns-in-Ok-Taken-clause-taken g c = λ bytes rest i comes.
    let progress = c.args.progress.now in
    let same = ap (take c.args.end) c.as_slice.ensures in
    line_taken bytes progress.pending c.skip.new.self rest (take c.args.end c.as_slice.result.now) progress.lines
    c.args.end progress.checker c.check_line.new.checker (g.M.Machine.network c.args.machine.now)
    (g.M.Machine.network c.check_line.new.machine) c.in-Ok-Taken.field-0
    c.requires.next same c.in-Ok-Taken.field-0-is c.skip.ensures c.in-Ok-Taken.ensures.checked comes

pub returns-in-Ok-Differs-clause-taken : goal.returns-in-Ok-Differs-clause-taken
returns-in-Ok-Differs-clause-taken g c = λ bytes rest i comes.
    let progress = c.args.progress.now in
    let same = ap (take c.args.end) c.as_slice.ensures in
    line_differs bytes progress.pending rest (take c.args.end c.as_slice.result.now) progress.lines c.args.end
    progress.checker c.check_line.new.checker (g.M.Machine.network c.args.machine.now)
    (g.M.Machine.network c.check_line.new.machine) c.in-Ok-Differs.field-0 i
    c.requires.next same c.in-Ok-Differs.field-0-is c.in-Ok-Differs.ensures.checked comes

pub returns-in-Ok-Bad-clause-taken : goal.returns-in-Ok-Bad-clause-taken
returns-in-Ok-Bad-clause-taken g c = λ bytes rest i comes.
    let progress = c.args.progress.now in
    let same = ap (take c.args.end) c.as_slice.ensures in
    line_bad bytes progress.pending rest (take c.args.end c.as_slice.result.now) progress.lines c.args.end
    progress.checker c.check_line.new.checker (g.M.Machine.network c.args.machine.now)
    (g.M.Machine.network c.check_line.new.machine) c.in-Ok-Bad.field-0 i
    c.requires.next same c.in-Ok-Bad.field-0-is c.in-Ok-Bad.ensures.checked comes

pub returns-in-Err-clause-taken : goal.returns-in-Err-clause-taken
returns-in-Err-clause-taken g c = λ bytes rest i comes.
    let progress = c.args.progress.now in
    let same = ap (take c.args.end) c.as_slice.ensures in
    line_wanting bytes progress.pending rest (take c.args.end c.as_slice.result.now) progress.lines c.args.end
    progress.checker (g.M.Machine.network c.args.machine.now) i
    c.requires.next same c.in-Err.ensures.checked comes
