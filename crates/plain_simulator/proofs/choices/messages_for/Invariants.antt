use Rattle.std.proofs.Common.{◌≡◌, take}
use Rattle.std.specs.List.{filter_map}
use Rattle.plain_simulator.specs.Choices.{message_of}
use Rattle.plain_simulator.proofs.choices.messages_for.Given as goal

-- the messages of the choices so far
abbrev pub invariant-loop-choice : goal.invariant-loop-choice
invariant-loop-choice l = l.messages.items ≡ filter_map (message_of l.was_up l.is_up l.choices l.to)
    (take l.choice-index l.each)
