use Rattle.std.proofs.Common.{◌≡◌, ap, ◌∙◌}
use Rattle.cell_engine.specs.Within.{send_within}
use Rattle.cell_engine.proofs.Lists.{filter_map_pushed}
use Rattle.cell_engine.proofs.route_cell.sends.sends_within.Goals as goal

pub loop-to-preserved : goal.loop-to-preserved
loop-to-preserved c =
    let inv = c.loop-to.invariant in (
      filter_map_pushed (send_within c.args.prefix c.args.before.now c.args.after.now) _ _ c.to-item.result
          _ _ _ c.loop-to-test.true c.to-item.is
          (c.in_ok-send.ensures.send ∙ (λ i. send_within c.args.prefix (inv.1 i) (inv.2 i) c.to-item.result))
          inv.0 c.in_ok-push_some.ensures.ok,
      c.send_within.ensures.before ∙ inv.1,
      c.send_within.ensures.after ∙ inv.2,
    )
