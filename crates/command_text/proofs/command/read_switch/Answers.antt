use Rattle.sim_event.specs.Events.{IsEvent}
use Rattle.command_text.specs.Words.{words_of}
use Rattle.command_text.specs.Arguments.{AreEnds, switch_words}
use Rattle.command_text.proofs.FirstWords.{switch_follows}
use Rattle.command_text.proofs.Readings.{unread}
use Rattle.command_text.proofs.command.read_switch.Goals as goal

pub returns-in_err-first : goal.returns-in_err-first
returns-in_err-first c =
    unread IsEvent words_of _ AreEnds switch_words _ _ c.from_residual.ensures c.in_err-first.ensures
    (switch_follows c.args.verb _)
