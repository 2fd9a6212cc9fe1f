use Rattle.log_replay.proofs.Steps.{line_long, taken_advance}
use Rattle.log_replay.proofs.progress.advance.Goals as goal

pub returns-in-Line-clause-advance : goal.returns-in-Line-clause-advance
returns-in-Line-clause-advance g c = λ bytes rest known comes.
    let now = c.take_line.new.progress in
    taken_advance bytes now.pending rest c.take_line.result now.lines now.checker
    (g.M.Machine.network c.take_line.new.machine) c.args.input.now known
    (c.take_line.ensures.taken bytes rest c.args.input.now comes)

pub returns-in-Part-clause-advance : goal.returns-in-Part-clause-advance
returns-in-Part-clause-advance g c = λ bytes rest known comes.
    c.read_on.ensures.advance bytes rest (g.M.Machine.network c.args.machine.now) known comes

pub returns-in-TooLong-clause-advance : goal.returns-in-TooLong-clause-advance
returns-in-TooLong-clause-advance g c = λ bytes rest known comes.
    let progress = c.args.progress.now in
    line_long bytes progress.pending rest progress.lines progress.checker (g.M.Machine.network c.args.machine.now)
    c.args.input.now c.in-TooLong.ensures comes
