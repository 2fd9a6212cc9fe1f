use Rattle.std.proofs.Common.{sym, ◌∙◌}
use Rattle.reference_machine.proofs.Ends.{delivery_allowed}
use Rattle.reference_machine.proofs.machine_rules.deliveries.delivery_refusal.Goals as goal

pub returns-then-is_up : goal.returns-then-is_up
returns-then-is_up c = sym (delivery_allowed c.args.conf.now c.facts.ensures.configured c.args.direction
    (sym c.is_up.ensures ∙ c.if-is_up.true))
