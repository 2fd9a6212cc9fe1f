use Rattle.std.proofs.Common.{rules}
use Rattle.log_text.specs.Logs.{log_text}
use Rattle.watched.specs.Sending.{front_kept}
use Rattle.team_run.proofs.team.write_entries.Goals as goal

pub returns-clause-front : goal.returns-clause-front
returns-clause-front g c =
    let front = front_kept c.args.output.now.written c.write_log_in_threads.new.output.written c.flush.new.self.written
    (log_text c.args.entries.now) c.in_ok-write_log_in_threads.ensures.0 c.flush.ensures.kept in
    search rules
