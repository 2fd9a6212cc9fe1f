use Rattle.std.proofs.Common.{◌≤◌, length, sym, subst}
use Rattle.cell_engine.specs.Sending.{told}
use Rattle.cell_engine.proofs.Delivered.{outcome_tells_one}
use Rattle.cell_engine.proofs.state.State.outcome.Goals as goal

pub make_room-requires-clause-one : goal.make_room-requires-clause-one
make_room-requires-clause-one g c = λ t. subst (λ o. length (told t o.sends) ≤ 1) (sym c.in_ok-outcome.ensures.outcome)
    (outcome_tells_one c.args.self.now c.facts.ensures.configured c.args.direction c.args.message.now t)
