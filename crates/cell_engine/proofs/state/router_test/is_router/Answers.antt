use Rattle.std.proofs.Common.{ap, ◌∙◌}
use Rattle.cell_engine.specs.Edits.{has_router_kind}
use Rattle.cell_engine.proofs.Redecided.{router_by_kind}
use Rattle.cell_engine.proofs.state.router_test.is_router.Goals as goal

pub returns : goal.returns
returns c = c.has_router_kind.ensures ∙ ap has_router_kind c.router.ensures
    ∙ router_by_kind c.args.conf.now c.args.address
