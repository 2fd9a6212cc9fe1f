use Rattle.std.proofs.Common.{◌∙◌, sym, ap}
use Rattle.net_conf.specs.Costs.{down_sessions}
use Rattle.net_conf.proofs.kept.conf_sessions.ConfSessionsCopied.copy.Goals as goal

pub invariant_of-result : goal.invariant_of-result
invariant_of-result c = c.in_ok-down.ensures.ok ∙ c.self.invariant
    ∙ ap (λ x. down_sessions x) (sym c.in_ok-copy.ensures)
