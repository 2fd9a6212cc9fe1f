use Rattle.std.proofs.Common.{rules}
use Rattle.watched.specs.Sending.{front_kept}
use Rattle.log_replay.specs.ReplayRun.{found_text}
use Rattle.log_replay.proofs.replay_run.show.Goals as goal

pub returns-clause-front : goal.returns-clause-front
returns-clause-front g c =
    let front = front_kept c.args.output.now.written c.write_found.new.output.written c.flush.new.self.written
    (found_text c.args.found) c.in_ok-write_found.ensures.0 c.flush.ensures.kept in
    search rules
