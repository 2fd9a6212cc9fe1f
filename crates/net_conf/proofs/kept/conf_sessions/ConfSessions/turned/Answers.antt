use Rattle.std.proofs.Common.{◌∙◌, sym, subst}
use Rattle.net_conf.specs.Kept.{IsLinked}
use Rattle.net_conf.proofs.TreesAfter.{linked_after}
use Rattle.net_conf.proofs.kept.conf_sessions.ConfSessions.turned.Goals as goal

pub turned_by_link-requires-clause-linked : goal.turned_by_link-requires-clause-linked
turned_by_link-requires-clause-linked c =
    subst (λ d. IsLinked c.args.self.now d c.in-Some.one c.in-Some.other) (sym c.requires.made)
    (linked_after c.args.self.now c.args.edit.now c.in-Some.one c.in-Some.other c.requires.passes (sym c.link.ensures
    ∙ c.in-Some.is))
