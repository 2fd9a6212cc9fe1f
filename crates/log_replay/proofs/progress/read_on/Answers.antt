use Rattle.log_replay.proofs.Steps.{read_end, read_failed}
use Rattle.log_replay.proofs.progress.read_on.Goals as goal

pub returns-in-Ok-false-clause-advance : goal.returns-in-Ok-false-clause-advance
returns-in-Ok-false-clause-advance g c = λ bytes rest s known comes.
    let progress = c.args.progress.now in
    let said = c.in-Ok-false.ensures.ok in
    let last = said.4 c.in-Ok-false.field-0-test in
    let end = read_end bytes progress.pending c.read_more.new.self rest c.args.input.now c.read_more.new.input
    progress.lines progress.checker s known (said.0, said.1, said.2) last.1 comes in
    c.ending.ensures bytes c.read_more.new.input s end.0 end.1

pub returns-in-Err-clause-advance : goal.returns-in-Err-clause-advance
returns-in-Err-clause-advance g c = λ bytes rest s known comes.
    let progress = c.args.progress.now in
    read_failed bytes progress.pending rest c.args.input.now c.read_more.new.input progress.lines progress.checker s
    known c.requires.next.0 c.in-Err.ensures.err c.in-Err.ensures.left comes
