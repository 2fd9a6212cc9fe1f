use Rattle.team_run.proofs.Telling.{told_by}
use Rattle.team_run.specs.TeamRun.{told_text}
use Rattle.team_run.proofs.told.tell.Goals as goal

pub returns : goal.returns
returns g c = told_by c.args.errors.now c.write_told.new.output (told_text c.args.told) c.write_told.result
    c.write_told.ensures
