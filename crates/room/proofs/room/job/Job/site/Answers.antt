use Rattle.std.proofs.Common.{sym, ap, ◌∙◌}
use Rattle.net_conf.specs.RouterSites.{router_site}
use Rattle.cell_engine.specs.Sharing.{conf_shown}
use Rattle.room.proofs.Taken.{no_site}
use Rattle.room.proofs.room.job.Job.site.Goals as goal

pub returns-in-None : goal.returns-in-None
returns-in-None g c =
    sym (no_site c.self.inside.direction.to)
    ∙ sym (ap (λ k. router_site (conf_shown k) c.self.inside.direction.to) c.in-None.is)
    ∙ ap (λ j. j.site) c.self.view_is
