use Rattle.std.proofs.Common.{refl, ap, codes, ◌∷◌}
use Rattle.sim_event.specs.declared.event.News.TheVariants.{Update}
use Rattle.command_text.proofs.feed.read_update.Goals as goal

pub returns-else-not-is_route : goal.returns-else-not-is_route
returns-else-not-is_route c =
    let has = c.if-not-is_route.ensures.0 refl in
    (Update has.0, has.1, refl, ap (λ words. codes "update" ∷ words) has.2)
