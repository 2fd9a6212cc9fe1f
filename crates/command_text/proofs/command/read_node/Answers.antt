use Rattle.sim_event.specs.Events.{IsEvent}
use Rattle.command_text.specs.Words.{words_of}
use Rattle.command_text.specs.Arguments.{IsNumberedAddress, numbered_words}
use Rattle.command_text.proofs.FirstWords.{node_follows}
use Rattle.command_text.proofs.Readings.{unread}
use Rattle.command_text.proofs.command.read_node.Goals as goal

pub returns-in_err-addr : goal.returns-in_err-addr
returns-in_err-addr c = unread IsEvent words_of _ IsNumberedAddress numbered_words _ _ c.from_residual.ensures
    c.in_err-addr.ensures (node_follows c.args.verb _)
