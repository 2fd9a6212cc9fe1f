use Rattle.command_text.proofs.Telling.{words_tell, one_meaning}
use Rattle.command_text.proofs.laws.one_meaning.Goals as goal

pub returns-clause-words : goal.returns-clause-words
returns-clause-words c = words_tell

pub returns-clause-line : goal.returns-clause-line
returns-clause-line c = one_meaning
