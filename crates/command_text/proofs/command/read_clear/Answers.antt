use Rattle.sim_event.specs.Events.{IsEvent}
use Rattle.command_text.specs.Words.{words_of}
use Rattle.command_text.specs.Arguments.{AreEnds, side_words}
use Rattle.command_text.proofs.FirstWords.{clear_follows}
use Rattle.command_text.proofs.Readings.{unread}
use Rattle.command_text.proofs.command.read_clear.Goals as goal

pub returns-in_err-first : goal.returns-in_err-first
returns-in_err-first c = unread IsEvent words_of _ AreEnds side_words _ _ c.from_residual.ensures c.in_err-first.ensures
    (clear_follows _)
