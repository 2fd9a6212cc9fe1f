use Rattle.team_run.proofs.Telling.{told_lists}
use Rattle.team_run.proofs.told.tell_all.Goals as goal

pub loop-told-preserved : goal.loop-told-preserved
loop-told-preserved g c = told_lists c.args.errors.now c.loop-told.errors c.tell_lines.new.errors c.args.all.now
    c.loop-told.told-index c.told-item.result c.loop-told-test.true c.told-item.is c.loop-told.invariant
    c.tell_lines.ensures
