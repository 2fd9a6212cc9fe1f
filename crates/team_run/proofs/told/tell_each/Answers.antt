use Rattle.team_run.proofs.Telling.{told_token}
use Rattle.team_run.proofs.told.tell_each.Goals as goal

pub loop-token-preserved : goal.loop-token-preserved
loop-token-preserved g c = told_token c.args.errors.now c.loop-token.errors c.tell.new.errors c.args.tokens.now
    c.loop-token.token-index c.token-item.result c.value.result.now c.loop-token-test.true c.token-item.is
    c.value.ensures c.loop-token.invariant c.tell.ensures
