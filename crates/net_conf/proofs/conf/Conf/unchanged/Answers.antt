use Rattle.std.proofs.Common.{sym, subst}
use Rattle.net_conf.specs.Concerned.{StaysAt}
use Rattle.net_conf.proofs.Concerns.{stays_itself}
use Rattle.net_conf.proofs.conf.Conf.unchanged.Goals as goal

pub returns-clause-concerned : goal.returns-clause-concerned
returns-clause-concerned c r out =
    subst (λ d. StaysAt c.args.self.now d r) (sym c.in_ok-conf.ensures) (stays_itself c.args.self.now r)
