use Rattle.std.proofs.Common.{◌≡◌, ◌∙◌, ◌==◌, map, filter, Ok, Err, IfOk, ap}
use Rattle.net_conf.specs.Originations.{prefixes_at}
use Rattle.net_conf.proofs.ByRouter.{prefixes_of}
use Rattle.net_conf.proofs.tables.originations.Originations.of.Goals as goal

pub returns : goal.returns
returns c =
    let r = c.args.router in
    let es = c.self.inside.routers in
    elim c.prefixes_at.result as (λ x. IfOk x (λ set. set ≡ prefixes_at es r) →
    IfOk x (λ set. set ≡ map (λ o. o.prefix) (filter (λ o. o.router.0 == r.0) c.args.self.now))) [
      | Ok set ↦ λ is. is ∙ prefixes_of r es c.prefixes_at.ensures.ordered
          ∙ ap (λ os. map (λ o. o.prefix) (filter (λ o. o.router.0 == r.0) os)) c.self.view_is
      | Err e ↦ λ is. tt
    ] c.prefixes_at.ensures.set
