use Rattle.plain_simulator.specs.Choices.{message_of}
use Rattle.plain_simulator.proofs.Lists.{filter_map_pushed}
use Rattle.plain_simulator.proofs.choices.messages_for.Goals as goal

pub loop-choice-preserved : goal.loop-choice-preserved
loop-choice-preserved c =
    filter_map_pushed (message_of c.args.was_up c.args.is_up c.args.choices.now c.args.to) _ _ c.choice-item.result
    _ _ _ c.loop-choice-test.true c.choice-item.is
    c.in_ok-message.ensures
    c.loop-choice.invariant c.in_ok-push_some.ensures.ok
