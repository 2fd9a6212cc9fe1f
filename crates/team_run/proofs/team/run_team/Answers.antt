use Rattle.std.proofs.Common.{inl}
use Rattle.team_run.proofs.Endings.{unread}
use Rattle.team_run.proofs.team.run_team.Goals as goal

pub returns-in-Ok : goal.returns-in-Ok
returns-in-Ok g c = record { run = inl (c.in-Ok.scripts.items, c.in-Ok.ensures.scripts, c.play.ensures) }

pub returns-in-Err : goal.returns-in-Err
returns-in-Err g c =
    record {
      run = unread c.args.files.now c.read_scripts.new.files c.args.team.settings.workers c.args.team.settings.turns
          c.args.team.settings.is_terminal c.args.output.now c.args.errors.now c.in-Err.fault c.end_by.result
          c.end_by.new.errors c.in-Err.ensures.fault c.end_by.ensures.told c.end_by.ensures.status;
    }
