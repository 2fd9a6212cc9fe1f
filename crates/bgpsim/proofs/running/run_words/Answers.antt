use Rattle.std.proofs.Common.{map, string_bytes}
use Rattle.bgpsim.proofs.ProgramRuns.{shown}
use Rattle.bgpsim.proofs.running.run_words.Goals as goal

-- for want of memory before anything began, too, the words need have no fault
pub returns-in-Err : goal.returns-in-Err
returns-in-Err g c =
    let old = c.args.streams.now in
    let new = c.run_chosen.new.streams in
    shown (map string_bytes c.args.words.now) c.in-Err.error old.is_terminal old.input old.output old.errors new.errors
    c.show.result new.input new.output c.show.new.errors c.in-Err.ensures.fault c.in-Err.ensures.unread
    c.in-Err.ensures.unwritten c.in-Err.ensures.untold c.show.ensures
